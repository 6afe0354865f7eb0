use Rattle.mg_scan.proofs.PassedOver.{same_page}
use Rattle.mg_scan.proofs.passing.pass_rows.Goals as goal
use Rattle.mg_shard.specs.Shard.{shards_view}

pub returns-in-None : goal.returns-in-None
returns-in-None c = same_page (shards_view c.args.shards.now) c.args.search c.args.skip
