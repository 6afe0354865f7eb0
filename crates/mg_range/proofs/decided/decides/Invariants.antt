use Rattle.std.proofs.Common.{◌≡◌, drop}
use Rattle.std.specs.List.{list_all}
use Rattle.mg_normal.specs.View.{atoms_view}
use Rattle.mg_range.specs.Decided.{bounds_one, decides_of}
use Rattle.mg_range.proofs.decided.decides.Given as goal

-- the result for all atoms is the result for those that are left
abbrev pub invariant-loop-atom : goal.invariant-loop-atom
invariant-loop-atom l = decides_of (atoms_view l.atoms) l.columns ≡ list_all (bounds_one l.bounded) (atoms_view (drop l.atom-index l.atoms))
