use Rattle.std.proofs.Common.{◌≡◌, drop}
use Rattle.std.specs.List.{find}
use Rattle.mg_normal.specs.View.{atoms_view}
use Rattle.mg_index.specs.Bound.{bounds_on, is_exact}
use Rattle.mg_index.proofs.bound.fixed_value.Given as goal

-- the result for all atoms is the result for those that are left
abbrev pub invariant-loop-atom : goal.invariant-loop-atom
invariant-loop-atom l = find is_exact (bounds_on (atoms_view l.atoms) l.column) ≡ find is_exact (bounds_on (atoms_view (drop l.atom-index l.atoms)) l.column)
