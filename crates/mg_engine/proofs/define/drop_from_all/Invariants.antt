use Rattle.std.proofs.Common.{◌≡◌, ◌++◌, drop, map}
use Rattle.mg_engine.specs.Settled.{shard_without}
use Rattle.mg_shard.specs.Shard.{shards_view}
use Rattle.mg_engine.proofs.define.drop_from_all.Given as goal

-- the shards so far, followed by the rest without the index, are all shards without it
abbrev pub invariant-loop-shard : goal.invariant-loop-shard
invariant-loop-shard l = map (shard_without l.ddoc l.name) (shards_view l.shards) ≡ shards_view l.all.items ++ map (shard_without l.ddoc l.name) (shards_view (drop l.shard-index l.shards))
