use Rattle.std.proofs.Common.{◌≡◌, vec_len, length, map, take}
use Rattle.mg_scan.specs.Built.{with_index}
use Rattle.mg_scan.specs.Building.{AreRowsAt}
use Rattle.mg_shard.specs.Shard.{shards_view}
use Rattle.mg_scan.proofs.building.index_shards.Given as goal

-- the rows that are left, and the shards built so far
abbrev pub invariant-loop-i : goal.invariant-loop-i
invariant-loop-i l = AreRowsAt l.definition (shards_view l.shards) l.given.items × (vec_len l.given ≡ length l.shards) × (l.built.items ≡ take l.i (map (with_index l.definition) (shards_view l.shards)))
