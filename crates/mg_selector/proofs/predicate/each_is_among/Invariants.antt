use Rattle.std.proofs.Common.{◌≡◌, drop}
use Rattle.mg_value.specs.View.{items_view}
use Rattle.mg_selector.specs.Predicate.{every_item, is_among}
use Rattle.mg_selector.proofs.predicate.each_is_among.Given as goal

-- the result for all is the result for what is left
abbrev pub invariant-loop-value : goal.invariant-loop-value
invariant-loop-value g l =
    let p = is_among (g.L.LentValue.items l.fn.items) in
    every_item p (items_view l.values) ≡ every_item p (items_view (drop l.value-index l.values))
