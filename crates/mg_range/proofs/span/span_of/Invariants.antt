use Rattle.std.proofs.Common.{◌≡◌, drop, map}
use Rattle.mg_value.specs.View.{view}
use Rattle.mg_normal.specs.View.{atoms_view}
use Rattle.mg_range.specs.Range.{range_of}
use Rattle.mg_range.specs.View.{with_equals}
use Rattle.mg_range.proofs.span.span_of.Given as goal

-- the range of all columns is the values so far, and then the range of the columns that are left
abbrev pub invariant-loop-column : goal.invariant-loop-column
invariant-loop-column l =
    range_of (atoms_view l.atoms) l.columns ≡ with_equals (map view l.equal.items) (range_of (atoms_view l.atoms) (drop l.column-index l.columns))
