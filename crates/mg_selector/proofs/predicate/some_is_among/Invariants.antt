use Rattle.std.proofs.Common.{◌≡◌}
use Rattle.mg_value.specs.View.{items_view}
use Rattle.mg_value.proofs.Items.{items_past}
use Rattle.mg_selector.specs.Predicate.{some_item, is_among}
use Rattle.mg_selector.proofs.predicate.some_is_among.Given as goal

-- the result for all is the result for what is left
abbrev pub invariant-loop-place : goal.invariant-loop-place
invariant-loop-place g l =
    let p = is_among (items_view l.items) in
    let vs = g.L.LentValue.items l.fn.values in
    some_item p vs ≡ some_item p (items_past l.place vs)
