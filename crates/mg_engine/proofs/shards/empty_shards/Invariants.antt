use Rattle.std.proofs.Common.{◌≡◌, replicate}
use Rattle.mg_engine.specs.StateView.{empty_shard}
use Rattle.mg_shard.specs.Shard.{shards_view}
use Rattle.mg_engine.proofs.shards.empty_shards.Given as goal

-- the shards made so far are empty, one for each turn
abbrev pub invariant-loop : goal.invariant-loop
invariant-loop l = shards_view l.made.items ≡ replicate l.counter empty_shard
