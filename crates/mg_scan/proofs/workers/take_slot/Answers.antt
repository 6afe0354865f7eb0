use Rattle.mg_scan.proofs.Maps.{slots-unset}
use Rattle.mg_scan.proofs.workers.take_slot.Goals as goal

pub returns-clause-slots : goal.returns-clause-slots
returns-clause-slots c = λ search shards filled. rw c.take.ensures.after (slots-unset search shards c.args.slots.now.items c.args.i filled)
