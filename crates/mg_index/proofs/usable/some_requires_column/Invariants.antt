use Rattle.std.proofs.Common.{◌≡◌, drop}
use Rattle.std.specs.List.{list_any}
use Rattle.mg_normal.specs.View.{atoms_view}
use Rattle.mg_index.specs.Choice.{requires_column}
use Rattle.mg_index.proofs.usable.some_requires_column.Given as goal

-- the result for all atoms is the result for those that are left
abbrev pub invariant-loop-atom : goal.invariant-loop-atom
invariant-loop-atom l = list_any (requires_column l.column) (atoms_view l.atoms) ≡ list_any (requires_column l.column) (atoms_view (drop l.atom-index l.atoms))
