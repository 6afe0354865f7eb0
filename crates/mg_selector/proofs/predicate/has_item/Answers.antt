use Rattle.std.proofs.Common.{◌≡◌, ◌+◌, length, sym, ap, ◌∙◌, ◌||◌, arith}
use Rattle.mg_value.specs.Value.{item_list}
use Rattle.mg_value.specs.View.{view}
use Rattle.mg_value.proofs.Items.{items_past}
use Rattle.mg_selector.specs.Predicate.{are_equal, some_item}
use Rattle.mg_selector.proofs.Elements.{some_next, some_end, are_equal-turned}
use Rattle.mg_selector.proofs.predicate.has_item.Goals as goal

pub returns-then-are_equal : goal.returns-then-are_equal
returns-then-are_equal g c =
    let w = view c.args.value.now in
    let vs = g.L.LentValue.items c.args.items.now in
    let v = g.L.LentValue.value c.item.result in
    let n = c.loop-place.place in
    sym (c.loop-place.invariant ∙ some_next (are_equal w) vs n v c.item.ensures
    ∙ ap (λ b. b || some_item (are_equal w) (items_past (n + 1) vs)) (are_equal-turned w v ∙ sym c.are_equal.ensures ∙ c.if-are_equal.true))

pub loop-place-preserved : goal.loop-place-preserved
loop-place-preserved g c =
    let w = view c.args.value.now in
    let vs = g.L.LentValue.items c.args.items.now in
    let v = g.L.LentValue.value c.item.result in
    let n = c.loop-place.place in
    c.loop-place.invariant ∙ some_next (are_equal w) vs n v c.item.ensures
    ∙ ap (λ b. b || some_item (are_equal w) (items_past (n + 1) vs)) (are_equal-turned w v ∙ sym c.are_equal.ensures ∙ c.if-are_equal.false)

pub returns : goal.returns
returns g c =
    let vs = g.L.LentValue.items c.args.items.now in
    let end : c.loop-place.place ≡ length (item_list vs) = omega (arith, c.len-place-end.ensures) in
    sym (c.loop-place.invariant ∙ some_end (are_equal (view c.args.value.now)) vs c.loop-place.place end)
