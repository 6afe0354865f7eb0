use Rattle.mg_server.specs.Meeting.{Meets}
use Rattle.mg_wire.proofs.ChainLemmas.{told_still}
use Rattle.mg_wire.proofs.MeetingLemmas.{met_same, met_then}
use Rattle.mg_wire.proofs.conversation.ConnectionConversation.count_sent.Goals as goal

pub returns-clause-told : goal.returns-clause-told
returns-clause-told g c = λ moves from now told.
    let h = g.S.Handover in
    told_still (Meets h.follows moves) (met_same h.follows h.same h.onward moves) (met_then h.follows h.same h.onward moves) g.S.Service.answers
    from now c.args.self.now _ c.count.ensures.kept.1 c.count.ensures.holds told
