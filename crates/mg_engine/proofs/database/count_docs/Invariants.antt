use Rattle.std.proofs.Common.{◌≡◌, Global, length, take}
use Rattle.std.specs.Arc.{arc_value}
use Rattle.std.specs.declared.sync.Arc.{Arc}
use Rattle.std.specs.List.{sum_by}
use Rattle.mg_shard.specs.Documents.{docs_of}
use Rattle.mg_shard.specs.Shard.{ShardView}
use Rattle.mg_engine.proofs.database.count_docs.Given as goal

abbrev pub invariant-loop-i : goal.invariant-loop-i
invariant-loop-i l = l.count ≡ sum_by (λ (a : Arc ShardView Global). length (docs_of (arc_value a).documents)) (take l.i l.shards)
