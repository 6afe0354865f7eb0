use Rattle.mg_scan.proofs.Builds.{rows_there, shard_at}
use Rattle.mg_scan.proofs.building.extract_at.Goals as goal

pub returns : goal.returns
returns g c =
    rows_there c.args.definition.now c.args.shards.now c.args.i c.deref-shard.result.now c.in_ok-rows.rows
    (shard_at c.args.shards.now c.args.i c.index-shards-i.result c.deref-shard.result.now c.requires c.index-shards-i.is c.deref-shard.ensures) c.in_ok-rows.ensures
