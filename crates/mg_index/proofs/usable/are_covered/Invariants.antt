use Rattle.std.proofs.Common.{◌≡◌, drop}
use Rattle.std.specs.List.{list_all}
use Rattle.mg_normal.specs.View.{atoms_view}
use Rattle.mg_index.specs.Choice.{is_covered}
use Rattle.mg_index.proofs.usable.are_covered.Given as goal

-- the result for all columns is the result for those that are left
abbrev pub invariant-loop-column : goal.invariant-loop-column
invariant-loop-column l =
    let p = is_covered (atoms_view l.atoms) l.sort in
    list_all p l.columns ≡ list_all p (drop l.column-index l.columns)
