use Rattle.mg_scan.proofs.Maps.{answers}
use Rattle.mg_scan.proofs.workers.search_shard.Goals as goal

pub returns : goal.returns
returns g c =
    answers c.args.search c.args.shards.now c.args.i c.index-shards-i.result c.deref-shard.result.now _ c.requires c.index-shards-i.is c.deref-shard.ensures c.in_ok-hits.ensures
