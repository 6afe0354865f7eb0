use Rattle.std.proofs.Common.{◌≡◌, ◌+◌, drop}
use Rattle.mg_normal.specs.View.{atoms_view}
use Rattle.mg_index.specs.Bound.{bounded_count}
use Rattle.mg_index.proofs.bound.bounded_count.Given as goal

-- the columns so far are fixed
abbrev pub invariant-loop-place : goal.invariant-loop-place
invariant-loop-place l = bounded_count (atoms_view l.atoms) l.columns ≡ l.place + bounded_count (atoms_view l.atoms) (drop l.place l.columns)
