use Rattle.std.proofs.Common.{◌≡◌, drop, nat_le}
use Rattle.std.specs.List.{sum_by}
use Rattle.mg_shard.specs.Shard.{shards_view}
use Rattle.mg_scan.specs.Search.{after_of}
use Rattle.mg_scan.specs.Upcoming.{count_upcoming}
use Rattle.mg_scan.proofs.counting.reads_at_most.Given as goal

-- the answer is whether the shards that are left have at most as much as is left of `most`
abbrev pub invariant-loop-i : goal.invariant-loop-i
invariant-loop-i l =
    let s = l.search in
    let f = count_upcoming s.target s.range.now (after_of s) s.direction in
    nat_le (sum_by f (shards_view l.shards)) l.most ≡ nat_le (sum_by f (drop l.i (shards_view l.shards))) l.left
