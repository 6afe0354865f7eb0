use Rattle.std.proofs.Common.{◌∙◌, arith}
use Rattle.mg_shard.specs.Shard.{shards_view}
use Rattle.mg_scan.proofs.Maps.{lists-more}
use Rattle.mg_scan.proofs.workers.hits_in_order.Goals as goal

pub loop-i-preserved : goal.loop-i-preserved
loop-i-preserved g c =
    let i = c.loop-i.invariant in (
      c.take_slot-found.ensures.slots c.args.search (shards_view c.args.shards.now) i.0,
      c.take_slot-found.ensures.len ∙ i.1,
      rw c.in_ok-push.ensures.items (lists-more c.args.search c.args.shards.now c.loop-i.all.items c.loop-i.i c.in_ok-hits.hits (omega arith) i.2 c.in_ok-hits.ensures),
    )
