use Rattle.std.proofs.Common.{◌≡◌, List, vec_len}
use Rattle.mg_shard.specs.Shard.{ShardView}
use Rattle.mg_scan.specs.Worked.{AllShardHits, AllSlots}
use Rattle.mg_scan.specs.declared.search.Search.{Search}
use Rattle.mg_scan.proofs.workers.put_in_slots.Given as goal

-- for each search and shards whose hits were given, the lists that are left and the slots so far have such hits
abbrev pub invariant-loop-shard : goal.invariant-loop-shard
invariant-loop-shard l =
    ((search : Search) (shards : List ShardView) → AllShardHits search shards l.fn.given.items → AllSlots search shards l.fn.slots.items
    → AllShardHits search shards l.given.items × AllSlots search shards l.slots.items)
    × (vec_len l.slots ≡ vec_len l.fn.slots)

abbrev pub decreases-loop-shard : goal.decreases-loop-shard
decreases-loop-shard l = vec_len l.given
