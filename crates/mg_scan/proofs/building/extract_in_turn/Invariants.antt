use Rattle.std.proofs.Common.{◌≡◌, vec_len}
use Rattle.mg_scan.specs.Building.{AreRowsAt}
use Rattle.mg_shard.specs.Shard.{shards_view}
use Rattle.mg_scan.proofs.building.extract_in_turn.Given as goal

abbrev pub invariant-loop-i : goal.invariant-loop-i
invariant-loop-i g l = AreRowsAt l.definition (shards_view l.shards) l.all.items × (vec_len l.all ≡ l.i)
