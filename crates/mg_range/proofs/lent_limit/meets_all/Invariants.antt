use Rattle.std.proofs.Common.{◌≡◌, drop}
use Rattle.mg_value.specs.View.{view}
use Rattle.mg_normal.specs.View.{atoms_view}
use Rattle.mg_index.specs.Bound.{bounds_on, meets_all}
use Rattle.mg_range.proofs.lent_limit.meets_all.Given as goal

-- the result for all atoms is the result for those that are left
abbrev pub invariant-loop-atom : goal.invariant-loop-atom
invariant-loop-atom l =
    let v = view l.value in
    meets_all v (bounds_on (atoms_view l.atoms) l.column) ≡ meets_all v (bounds_on (atoms_view (drop l.atom-index l.atoms)) l.column)
