use Rattle.std.proofs.Common.{◌≡◌, ◌++◌, drop}
use Rattle.mg_shard.specs.Shard.{shards_view}
use Rattle.mg_engine.proofs.shards.share_shards.Given as goal

-- the shards so far, followed by the rest, are all shards
abbrev pub invariant-loop-shard : goal.invariant-loop-shard
invariant-loop-shard l = shards_view l.shards ≡ shards_view l.all.items ++ shards_view (drop l.shard-index l.shards)
