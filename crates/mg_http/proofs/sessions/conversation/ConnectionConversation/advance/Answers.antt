use Rattle.mg_server.specs.Meeting.{Meets}
use Rattle.mg_http.proofs.ToldLemmas.{told_met, met_same, met_then}
use Rattle.mg_http.proofs.sessions.conversation.ConnectionConversation.advance.Goals as goal

pub returns-clause-told : goal.returns-clause-told
returns-clause-told g c = λ moves from now told meets.
    let h = g.S.Handover in
    let r = c.run.ensures in
    told_met (Meets h.follows moves) (met_same h.follows h.same h.onward moves) (met_then h.follows h.same h.onward moves) g.S.Service.answers from c.args.self.now now c.args.service.now _ _ r.quiet r.runs r.stays told meets
