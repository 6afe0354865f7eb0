use Rattle.mg_server.specs.Meeting.{Meets}
use Rattle.mg_http.specs.Connection.{AnswersMet}
use Rattle.mg_http.proofs.ToldLemmas.{told_transfers}
use Rattle.mg_http.proofs.sessions.conversation.ConnectionConversation.read_from.Goals as goal

pub returns-clause-told : goal.returns-clause-told
returns-clause-told g c = λ moves from now told.
    let moved = c.receive.ensures.transfers in
    record {
      last = told.last;
      told = told_transfers (AnswersMet (Meets g.S.Handover.follows moves) g.S.Service.answers) from c.args.self.now told.last _ moved.0 moved.1 told.told;
      meeting = told.meeting;
    }
