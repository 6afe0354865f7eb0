use Rattle.mg_server.specs.Meeting.{Meets}
use Rattle.mg_wire.proofs.ChainLemmas.{told_new}
use Rattle.mg_wire.proofs.MeetingLemmas.{met_same, met_then}
use Rattle.mg_wire.proofs.conversation.ConnectionConversation.another.Goals as goal

pub returns-clause-told : goal.returns-clause-told
returns-clause-told g c = λ moves now.
    let h = g.S.Handover in
    told_new (Meets h.follows moves) (met_same h.follows h.same h.onward moves) (met_then h.follows h.same h.onward moves) g.S.Service.answers
    now c.new.result c.new.ensures.calls c.new.ensures.holds
