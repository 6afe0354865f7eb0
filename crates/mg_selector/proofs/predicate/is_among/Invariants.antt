use Rattle.std.proofs.Common.{◌≡◌, drop}
use Rattle.mg_value.specs.View.{items_view}
use Rattle.mg_selector.specs.Predicate.{is_among}
use Rattle.mg_selector.proofs.predicate.is_among.Given as goal

-- the result for all is the result for what is left
abbrev pub invariant-loop-item : goal.invariant-loop-item
invariant-loop-item g l =
    let v = g.L.LentValue.value l.fn.value in
    is_among (items_view l.items) v ≡ is_among (items_view (drop l.item-index l.items)) v
