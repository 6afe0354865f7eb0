use Rattle.std.proofs.Common.{◌≡◌, ◌+◌, ◌≤◌, drop}
use Rattle.mg_face.specs.Place.{mode_view, fraction_from, first_fraction}
use Rattle.mg_face.proofs.place.first_fraction.Given as goal

abbrev pub invariant-loop-i : goal.invariant-loop-i
invariant-loop-i l = record {
  left : fraction_from (mode_view l.mode) l.line l.column (drop l.i l.bytes) ≡ first_fraction l.bytes;
  line : l.line ≤ l.i + 1;
  column : l.column ≤ l.i + 1;
}
