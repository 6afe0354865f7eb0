use Rattle.mg_scan.proofs.PassedOver.{same_page}
use Rattle.mg_scan.proofs.passing.pass_round.Goals as goal
use Rattle.mg_shard.specs.Shard.{shards_view}

pub returns-in-None-clause-page : goal.returns-in-None-clause-page
returns-in-None-clause-page c = same_page (shards_view c.args.shards.now) c.args.passed.search c.args.passed.skip
