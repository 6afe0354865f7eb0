use Rattle.std.proofs.Common.{◌≡◌, ◌++◌}
use Rattle.std.specs.Vec.Iter.{into_iter_items}
use Rattle.mg_normal.specs.Says.{conditions_atoms, rests_of}
use Rattle.mg_normal.specs.View.{above_steps, conditions_view, atoms_view}
use Rattle.mg_normal.proofs.Parted.{conditions_before}
use Rattle.mg_normal.proofs.rest.+take_atoms.Given as goal

-- the atoms so far, with those of the conditions to come, are all atoms; the rests so far, with those to come, are all rests
abbrev pub invariant-take_all-loop-condition : goal.invariant-take_all-loop-condition
invariant-take_all-loop-condition l =
    let at = above_steps l.above in
    let to_come = conditions_view (into_iter_items l.condition-iterator) in record {
      can_next : (goal.iterator-take_all-loop-condition).can_next l.condition-iterator;
      is_finite : (goal.iterator-take_all-loop-condition).is_finite l.condition-iterator;
      atoms : atoms_view l.initial.atoms.items ++ conditions_atoms (conditions_view l.fn.conditions.items) at ≡ atoms_view l.atoms.items ++ conditions_atoms to_come at;
      rest : rests_of (conditions_view l.fn.conditions.items) ≡ conditions_before l.rest.items (rests_of to_come);
    }
