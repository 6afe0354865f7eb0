use Rattle.std.proofs.Common.{arith}
use Rattle.mg_scan.proofs.PassedOver.{counted_page, same_page, upcoming_still}
use Rattle.mg_scan.proofs.passing.pass_counted.Goals as goal
use Rattle.mg_shard.specs.Shard.{shards_view}

pub returns-in-None-clause-page : goal.returns-in-None-clause-page
returns-in-None-clause-page c = same_page (shards_view c.args.shards.now) c.args.passed.search c.args.passed.skip

pub returns-then-count-passed-clause-page : goal.returns-then-count-passed-clause-page
returns-then-count-passed-clause-page c = same_page (shards_view c.args.shards.now) c.args.passed.search c.args.passed.skip

pub returns-else-count-passed-clause-page : goal.returns-else-count-passed-clause-page
returns-else-count-passed-clause-page c =
    counted_page (shards_view c.args.shards.now) c.args.passed.search c.args.passed.skip c.args.passed.upcoming c.in-Some.upcoming c.saturating_sub-count.result c.args.row c.requires.index c.requires.upcoming c.requires.within
    c.saturating_sub-take.result _ _ c.search_after-beyond.ensures c.in-Some.ensures c.saturating_sub-count.ensures c.saturating_sub-take.ensures (omega arith) c.search_after-search.ensures

pub returns-else-count-passed-clause-upcoming : goal.returns-else-count-passed-clause-upcoming
returns-else-count-passed-clause-upcoming c = upcoming_still (shards_view c.args.shards.now) c.args.passed.search c.args.row c.in-Some.upcoming c.saturating_sub-take.result _ _ c.search_after-beyond.ensures c.in-Some.ensures c.search_after-search.ensures
