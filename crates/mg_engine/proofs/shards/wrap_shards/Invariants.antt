use Rattle.std.proofs.Common.{◌≡◌, ◌++◌}
use Rattle.std.specs.Vec.Iter.{into_iter_items}
use Rattle.mg_shard.specs.Shard.{shards_view}
use Rattle.mg_engine.proofs.shards.wrap_shards.Given as goal

-- the shards so far, followed by the rest, are all shards
abbrev pub invariant-loop-shard : goal.invariant-loop-shard
invariant-loop-shard l = record {
  can_next : (goal.iterator-loop-shard).can_next l.shard-iterator;
  is_finite : (goal.iterator-loop-shard).is_finite l.shard-iterator;
  built : l.fn.shards.items ≡ shards_view l.all.items ++ into_iter_items l.shard-iterator;
}
