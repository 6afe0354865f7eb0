use Rattle.mg_server.specs.Meeting.{Meets}
use Rattle.mg_http.specs.Connection.{AnswersMet}
use Rattle.mg_http.proofs.ToldLemmas.{told_new, met_same}
use Rattle.mg_http.proofs.sessions.conversation.ConnectionConversation.another.Goals as goal

pub returns-clause-told : goal.returns-clause-told
returns-clause-told g c = λ moves now.
    let s = c.new.ensures in
    record {
      last = now;
      told = told_new (AnswersMet (Meets g.S.Handover.follows moves) g.S.Service.answers) c.new.result now s.received s.sent s.waits s.input s.state.0 s.state.1 s.state.2;
      meeting = met_same g.S.Handover.follows g.S.Handover.same g.S.Handover.onward moves now;
    }
