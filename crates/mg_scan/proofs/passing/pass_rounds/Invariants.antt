use Rattle.std.proofs.Common.{◌≡◌}
use Rattle.mg_scan.specs.Passed.{HasPageOf, IsIndex, count_all_upcoming}
use Rattle.mg_scan.proofs.passing.pass_rounds.Given as goal
use Rattle.mg_shard.specs.Shard.{shards_view}

-- the page stays the same, and the upcoming rows are counted
abbrev pub invariant-loop-stride : goal.invariant-loop-stride
invariant-loop-stride l = record {
  page : HasPageOf (shards_view l.shards) l.all.search l.all.skip l.passed.search l.passed.skip;
  upcoming : l.passed.upcoming ≡ count_all_upcoming (shards_view l.shards) l.passed.search;
  index : IsIndex l.passed.search.target;
}

abbrev pub decreases-loop-stride : goal.decreases-loop-stride
decreases-loop-stride l = l.stride
