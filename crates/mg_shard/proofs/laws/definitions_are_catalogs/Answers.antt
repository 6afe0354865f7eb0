use Rattle.std.proofs.Common.{arith}
use Rattle.std.proofs.lemmas.List.{length-map}
use Rattle.std.specs.Arc.{arc_value}
use Rattle.mg_shard.proofs.Catalogs.{one_more_catalog}
use Rattle.mg_shard.proofs.laws.definitions_are_catalogs.Goals as goal

pub loop-i-preserved : goal.loop-i-preserved
loop-i-preserved c =
    one_more_catalog c.args.shards.now c.loop-i.i c.index-shards-i.result c.deref-shard.result.now (omega arith) c.index-shards-i.is c.deref-shard.ensures c.indexes.ensures.catalog c.loop-i.invariant

pub returns : goal.returns
returns c = λ k d less. c.loop-i.invariant k d (omega (arith, less, length-map c.args.shards.now arc_value))
