use Rattle.mg_collate.proofs.Sorting.{all_append}
use Rattle.mg_shard.specs.Shard.{shards_view}
use Rattle.mg_scan.specs.Worked.{AreHitsFoundAt}
use Rattle.mg_scan.proofs.workers.search_claimed.Goals as goal

pub loop-turn-preserved : goal.loop-turn-preserved
loop-turn-preserved g c =
    rw c.in_ok-push.ensures.items (all_append (λ d. AreHitsFoundAt c.args.search (shards_view c.args.shards.now) d.shard d.hits.items) c.loop-turn.all.items _ c.loop-turn.invariant (c.in_ok-hits.ensures, tt))
