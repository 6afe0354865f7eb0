use Rattle.std.proofs.Common.{◌≡◌, drop}
use Rattle.mg_normal.specs.View.{atoms_view}
use Rattle.mg_index.specs.Candidates.{DescribesBest, least_with}
use Rattle.mg_index.specs.Choice.{least, preference, usable_of}
use Rattle.mg_index.specs.View.{hint_of}
use Rattle.mg_index.proofs.choice.best_place.Given as goal

-- the best so far is right about its definition, and the least of all is the best so far or among what is left
abbrev pub invariant-loop-place : goal.invariant-loop-place
invariant-loop-place l =
    let atoms = atoms_view l.atoms in
    let hint = hint_of l.hint in
    DescribesBest atoms hint l.definitions l.best
    × (least (preference atoms hint) (usable_of atoms l.sort l.definitions) ≡ least_with atoms hint l.best (least (preference atoms hint) (usable_of atoms l.sort (drop l.place l.definitions))))
