use Rattle.std.proofs.Common.{arith}
use Rattle.mg_scan.proofs.Maps.{slots-snoc}
use Rattle.mg_scan.proofs.workers.empty_slots.Goals as goal

pub loop-slot-preserved : goal.loop-slot-preserved
loop-slot-preserved c =
    let i = c.loop-slot.invariant in
    let one = c.in_ok-push.ensures.len in
    (λ search shards. rw c.in_ok-push.ensures.items (slots-snoc search shards c.loop-slot.slots.items (i.0 search shards)), omega (arith, one, i.1))
