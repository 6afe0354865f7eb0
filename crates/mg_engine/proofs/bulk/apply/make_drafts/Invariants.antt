use Rattle.std.proofs.Common.{◌≡◌, ◌++◌, drop, map}
use Rattle.mg_engine.specs.StateView.{fresh}
use Rattle.mg_shard.specs.Shard.{shards_view}
use Rattle.mg_engine.proofs.bulk.apply.make_drafts.Given as goal

-- the drafts so far, followed by those of the rest, are the drafts of all shards
abbrev pub invariant-loop-shard : goal.invariant-loop-shard
invariant-loop-shard l = map fresh (shards_view l.shards) ≡ l.drafts.items ++ map fresh (shards_view (drop l.shard-index l.shards))
