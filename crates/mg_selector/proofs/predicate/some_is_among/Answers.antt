use Rattle.std.proofs.Common.{◌≡◌, ◌+◌, length, sym, ap, ◌∙◌, ◌||◌, arith}
use Rattle.mg_value.specs.Value.{item_list}
use Rattle.mg_value.specs.View.{items_view}
use Rattle.mg_value.proofs.Items.{items_past}
use Rattle.mg_selector.specs.Predicate.{is_among, some_item}
use Rattle.mg_selector.proofs.Elements.{some_next, some_end}
use Rattle.mg_selector.proofs.predicate.some_is_among.Goals as goal

pub returns-then-is_among : goal.returns-then-is_among
returns-then-is_among g c =
    let p = is_among (items_view c.args.items.now) in
    let vs = g.L.LentValue.items c.args.values in
    let n = c.loop-place.place in
    sym (c.loop-place.invariant ∙ some_next p vs n (g.L.LentValue.value c.item.result) c.item.ensures
    ∙ ap (λ b. b || some_item p (items_past (n + 1) vs)) (sym c.is_among.ensures ∙ c.if-is_among.true))

pub loop-place-preserved : goal.loop-place-preserved
loop-place-preserved g c =
    let p = is_among (items_view c.args.items.now) in
    let vs = g.L.LentValue.items c.args.values in
    let n = c.loop-place.place in
    c.loop-place.invariant ∙ some_next p vs n (g.L.LentValue.value c.item.result) c.item.ensures
    ∙ ap (λ b. b || some_item p (items_past (n + 1) vs)) (sym c.is_among.ensures ∙ c.if-is_among.false)

pub returns : goal.returns
returns g c =
    let p = is_among (items_view c.args.items.now) in
    let vs = g.L.LentValue.items c.args.values in
    let end : c.loop-place.place ≡ length (item_list vs) = omega (arith, c.len-place-end.ensures) in
    sym (c.loop-place.invariant ∙ some_end p vs c.loop-place.place end)
