use Rattle.std.proofs.Common.{◌≡◌}
use Rattle.mg_value.specs.View.{view}
use Rattle.mg_value.proofs.Items.{items_past}
use Rattle.mg_selector.specs.Predicate.{is_among}
use Rattle.mg_selector.proofs.predicate.has_item.Given as goal

-- the result for all is the result for what is left
abbrev pub invariant-loop-place : goal.invariant-loop-place
invariant-loop-place g l =
    let vs = g.L.LentValue.items l.items in
    is_among vs (view l.value) ≡ is_among (items_past l.place vs) (view l.value)
