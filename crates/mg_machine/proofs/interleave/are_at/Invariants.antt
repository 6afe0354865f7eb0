use Rattle.std.proofs.Common.{take}
use Rattle.mg_machine.specs.Laws.{AreAt}
use Rattle.mg_machine.specs.View.{events_view}
use Rattle.mg_machine.proofs.interleave.are_at.Given as goal

-- the events so far are at these seats
abbrev pub invariant-loop-event : goal.invariant-loop-event
invariant-loop-event l = AreAt l.seats (events_view (take l.event-index l.events))
