use Rattle.std.proofs.Common.{refl, subst}
use Rattle.std.proofs.lemmas.Bool.{iff_false}
use Rattle.mg_machine.specs.Laws.{AreAt}
use Rattle.mg_machine.proofs.Replies.{at_more, event_at, seen_all}
use Rattle.mg_machine.proofs.interleave.are_at.Goals as goal

pub returns-then-not-is_at : goal.returns-then-not-is_at
returns-then-not-is_at c = (
  λ h. absurd cc,
  λ at. absurd (iff_false c.is_at.ensures c.if-not-is_at.true (event_at c.args.seats c.args.events.now c.loop-event.event-index c.event-item.result at c.loop-event-test.true c.event-item.is)),
)

pub loop-event-preserved : goal.loop-event-preserved
loop-event-preserved c = at_more c.args.seats c.args.events.now c.loop-event.event-index c.event-item.result c.loop-event-test.true c.event-item.is c.loop-event.invariant (c.is_at.ensures.0 c.if-not-is_at.false)

pub returns : goal.returns
returns c = (
  λ h. subst (AreAt c.args.seats) (seen_all c.args.events.now c.loop-event.event-index c.loop-event-test.false) c.loop-event.invariant,
  λ at. refl,
)
