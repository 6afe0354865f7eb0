use Rattle.std.proofs.Common.{◌≡◌, [], ◌∷◌, ◌++◌, Some, length, option_map, sym, ap, ◌∙◌, append_assoc, arith, rules}
use Rattle.std.proofs.lemmas.List.{nil_from_length}
use Rattle.std.specs.Vec.Iter.{into_iter_items}
use Rattle.mg_normal.specs.Says.{condition_atoms, conditions_atoms, rest_of, rests_of, all_left}
use Rattle.mg_normal.specs.View.{above_steps, condition_of, conditions_view, atoms_view}
use Rattle.mg_normal.proofs.Parted.{conditions_before, conditions_before-all, one_left, all_left-some}
use Rattle.mg_normal.proofs.Said.{condition_of-All}
use Rattle.mg_normal.proofs.rest.+take_atoms.Goals as goal

pub take_all-loop-condition-preserved-in-Continue-branch-3 : goal.take_all-loop-condition-preserved-in-Continue-branch-3
take_all-loop-condition-preserved-in-Continue-branch-3 t c =
    let l = c.loop-condition in
    let f = c.in-Some.condition in
    let to_come = into_iter_items c.next.new.self in
    let at = above_steps c.args.above.now in
    let step : into_iter_items l.condition-iterator ≡ f ∷ to_come = c.in-Some.ensures.steps.0 in
    let is_left : Some (condition_of c.in-Some-2.left) ≡ rest_of (condition_of f) = ap (option_map condition_of) (sym c.in-Some-2.is) ∙ c.in_ok-left.ensures.rest in record {
      can_next = tt;
      is_finite = tt;
      atoms =
          l.invariant.atoms ∙ ap (λ ys. atoms_view l.atoms.items ++ conditions_atoms (conditions_view ys) at) step
          ∙ sym (append_assoc (atoms_view l.atoms.items) (condition_atoms (condition_of f) at) (conditions_atoms (conditions_view to_come) at))
          ∙ ap (λ ys. ys ++ conditions_atoms (conditions_view to_come) at) (sym c.in_ok-left.ensures.atoms);
      rest =
          l.invariant.rest ∙ ap (λ ys. conditions_before l.rest.items (rests_of (conditions_view ys))) step
          ∙ one_left l.rest.items c.in-Some-2.left (condition_of f) (rests_of (conditions_view to_come)) is_left
          ∙ ap (λ ys. conditions_before ys (rests_of (conditions_view to_come))) (sym c.in_ok-push.ensures.items);
    }

pub take_all-returns-clause-rest : goal.take_all-returns-clause-rest
take_all-returns-clause-rest t c =
    let l = c.loop-condition in
    let zero : length (into_iter_items l.condition-iterator) ≡ 0 = grind (arith, l.condition-iterator.rest.ok, c.in-None.ensures.steps.0) in
    let none : into_iter_items l.condition-iterator ≡ [] = nil_from_length (into_iter_items l.condition-iterator) zero in
    sym (l.invariant.rest ∙ ap (λ ys. conditions_before l.rest.items (rests_of (conditions_view ys))) none ∙ conditions_before-all l.rest.items)

pub take_atoms-returns-else-is_empty-clause-rest : goal.take_atoms-returns-else-is_empty-clause-rest
take_atoms-returns-else-is_empty-clause-rest t c =
    let rest = c.in_ok-rest-in-All.rest in
    let some : length rest.items ≡ 0 → ⊥ = search rules in
    ap Some (condition_of-All rest)
    ∙ sym (ap rest_of (ap condition_of c.in-All.is ∙ condition_of-All c.in-All.conditions) ∙ ap all_left (sym c.in_ok-rest-in-All.ensures.rest) ∙ all_left-some rest.items some)
