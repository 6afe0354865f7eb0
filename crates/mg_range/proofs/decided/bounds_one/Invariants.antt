use Rattle.std.proofs.Common.{◌≡◌, drop}
use Rattle.mg_normal.specs.View.{atom_view}
use Rattle.mg_range.specs.Decided.{bounds_one}
use Rattle.mg_range.proofs.decided.bounds_one.Given as goal

-- the result for all columns is the result for those that are left
abbrev pub invariant-loop-column : goal.invariant-loop-column
invariant-loop-column l = bounds_one l.columns (atom_view l.atom) ≡ bounds_one (drop l.column-index l.columns) (atom_view l.atom)
