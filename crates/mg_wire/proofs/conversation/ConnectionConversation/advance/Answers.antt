use Rattle.mg_server.specs.Meeting.{Meets}
use Rattle.mg_wire.proofs.ChainLemmas.{told_more}
use Rattle.mg_wire.proofs.MeetingLemmas.{met_same, met_then}
use Rattle.mg_wire.proofs.conversation.ConnectionConversation.advance.Goals as goal

pub returns-clause-told : goal.returns-clause-told
returns-clause-told g c = λ moves from now told meeting.
    let h = g.S.Handover in
    told_more (Meets h.follows moves) (met_same h.follows h.same h.onward moves) (met_then h.follows h.same h.onward moves) g.S.Service.answers
    from now c.args.service.now _ c.args.self.now _ told meeting c.run.ensures.asks (c.run.ensures.holds told.holds)

pub returns-clause-rests : goal.returns-clause-rests
returns-clause-rests g c = λ moves from now told. c.run.ensures.rests told.holds
