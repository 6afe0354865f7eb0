use Rattle.std.proofs.Common.{◌≡◌, ◌+◌, drop}
use Rattle.std.specs.List.{sum_by}
use Rattle.mg_scan.specs.Passed.{count_all_upcoming, count_upcoming_by}
use Rattle.mg_scan.proofs.passing.count_all.Given as goal
use Rattle.mg_shard.specs.Shard.{shards_view}

-- the sum is the count of the shards so far and that of the shards that are left
abbrev pub invariant-loop-i : goal.invariant-loop-i
invariant-loop-i l = count_all_upcoming (shards_view l.shards) l.search ≡ l.all + sum_by (count_upcoming_by l.search) (drop l.i (shards_view l.shards))
