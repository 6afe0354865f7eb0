use Rattle.std.proofs.Common.{◌≤◌, ◌-◌, length, vec_len}
use Rattle.mg_scan.specs.Building.{AreRowsAt}
use Rattle.mg_shard.specs.Shard.{shards_view}
use Rattle.mg_scan.proofs.building.extract_by_threads.Given as goal

abbrev pub invariant-loop-alloc : goal.invariant-loop-alloc
invariant-loop-alloc g l = AreRowsAt l.definition (shards_view l.shards) l.all.items × (vec_len l.all ≤ length l.shards)

abbrev pub decreases-loop-alloc : goal.decreases-loop-alloc
decreases-loop-alloc g l = length l.shards - vec_len l.all
