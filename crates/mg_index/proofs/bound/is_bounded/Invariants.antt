use Rattle.std.proofs.Common.{◌≡◌, drop}
use Rattle.mg_normal.specs.View.{atoms_view}
use Rattle.mg_index.specs.Bound.{is_bounded}
use Rattle.mg_index.proofs.bound.is_bounded.Given as goal

-- the result for all atoms is the result for those that are left
abbrev pub invariant-loop-atom : goal.invariant-loop-atom
invariant-loop-atom l = is_bounded (atoms_view l.atoms) l.column ≡ is_bounded (atoms_view (drop l.atom-index l.atoms)) l.column
