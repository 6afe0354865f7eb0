use Rattle.mg_scan.proofs.PassedOver.{index_still, pages_on, same_page}
use Rattle.mg_scan.proofs.passing.pass_rounds.Goals as goal
use Rattle.mg_shard.specs.Shard.{shards_view}

pub loop-stride-init : goal.loop-stride-init
loop-stride-init c = record {
  page = same_page (shards_view c.args.shards.now) c.args.all.search c.args.all.skip;
  upcoming = c.requires.upcoming;
  index = c.requires.index;
}

pub loop-stride-preserved : goal.loop-stride-preserved
loop-stride-preserved c =
    let before = c.loop-stride.passed in
    let after = c.in_ok-next.next in
    record {
      page = pages_on (shards_view c.args.shards.now) c.args.all.search before.search after.search c.args.all.skip before.skip after.skip c.loop-stride.invariant.page c.in_ok-next.ensures.page;
      upcoming = c.in_ok-next.ensures.upcoming;
      index = index_still before.search after.search c.in_ok-next.ensures.page.same c.loop-stride.invariant.index;
    }
