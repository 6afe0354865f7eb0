use Rattle.mg_scan.proofs.PassedOver.{same_page}
use Rattle.mg_scan.proofs.passing.pass_over.Goals as goal
use Rattle.mg_shard.specs.Shard.{shards_view}

pub returns-then-first_stride-lt2 : goal.returns-then-first_stride-lt2
returns-then-first_stride-lt2 c = same_page (shards_view c.args.shards.now) c.args.search c.args.skip

pub returns-in-AllDocs : goal.returns-in-AllDocs
returns-in-AllDocs c = same_page (shards_view c.args.shards.now) c.args.search c.args.skip
