use Rattle.mg_scan.proofs.Builds.{built_at, shard_at}
use Rattle.mg_scan.proofs.building.index_shard.Goals as goal

pub returns : goal.returns
returns c =
    built_at c.args.definition.now c.args.shards.now c.args.i c.deref-shard.result.now c.in_ok-with_pages.field-0
    (shard_at c.args.shards.now c.args.i c.index-shards-i.result c.deref-shard.result.now c.requires.inside c.index-shards-i.is c.deref-shard.ensures) c.in_ok-with_pages.ensures
