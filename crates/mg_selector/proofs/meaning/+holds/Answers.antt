use Rattle.std.proofs.Common.{◌≡◌, ◌+◌, Some, nat_lt, length, sym, ap, ◌∙◌, ◌||◌, ◌&&◌, arith}
use Rattle.mg_value.specs.Value.{Value, item_list}
use Rattle.mg_value.proofs.Items.{items_past}
use Rattle.mg_selector.specs.Predicate.{some_item, every_item}
use Rattle.mg_selector.specs.Meaning.{holds_in}
use Rattle.mg_selector.specs.View.{selector_of}
use Rattle.mg_selector.specs.declared.sense.Sense.TheVariants.{Plain}
use Rattle.mg_selector.proofs.Elements.{some_next, every_next, some_end, every_end, some_has_not, each_of_some}
use Rattle.mg_selector.proofs.meaning.+holds.Goals as goal

pub some_element-returns-then-holds_in : goal.some_element-returns-then-holds_in
some_element-returns-then-holds_in g t c =
    let p = λ (v : Value). holds_in (selector_of c.args.inner.now) Plain (Some v) in
    let vs = g.L.LentValue.items c.args.items in
    let n = c.loop-place.place in
    sym (c.loop-place.invariant ∙ some_next p vs n (g.L.LentValue.value c.item.result) c.item.ensures
    ∙ ap (λ b. b || some_item p (items_past (n + 1) vs)) (sym c.holds_in.ensures ∙ c.if-holds_in.true))

pub some_element-loop-place-preserved : goal.some_element-loop-place-preserved
some_element-loop-place-preserved g t c =
    let p = λ (v : Value). holds_in (selector_of c.args.inner.now) Plain (Some v) in
    let vs = g.L.LentValue.items c.args.items in
    let n = c.loop-place.place in
    c.loop-place.invariant ∙ some_next p vs n (g.L.LentValue.value c.item.result) c.item.ensures
    ∙ ap (λ b. b || some_item p (items_past (n + 1) vs)) (sym c.holds_in.ensures ∙ c.if-holds_in.false)

pub some_element-returns : goal.some_element-returns
some_element-returns g t c =
    let p = λ (v : Value). holds_in (selector_of c.args.inner.now) Plain (Some v) in
    let vs = g.L.LentValue.items c.args.items in
    let end : c.loop-place.place ≡ length (item_list vs) = omega (arith, c.len-place-end.ensures) in
    sym (c.loop-place.invariant ∙ some_end p vs c.loop-place.place end)

pub each_element-returns-then-not-holds_in : goal.each_element-returns-then-not-holds_in
each_element-returns-then-not-holds_in g t c =
    let p = λ (v : Value). holds_in (selector_of c.args.inner.now) Plain (Some v) in
    let vs = g.L.LentValue.items c.args.items in
    let n = c.loop-place.place in
    some_has_not p vs
    (c.loop-place.invariant ∙ every_next p vs n (g.L.LentValue.value c.item.result) c.item.ensures
    ∙ ap (λ b. b && every_item p (items_past (n + 1) vs)) (sym c.holds_in.ensures ∙ c.if-not-holds_in.true))

pub each_element-loop-place-preserved : goal.each_element-loop-place-preserved
each_element-loop-place-preserved g t c =
    let p = λ (v : Value). holds_in (selector_of c.args.inner.now) Plain (Some v) in
    let vs = g.L.LentValue.items c.args.items in
    let n = c.loop-place.place in
    c.loop-place.invariant ∙ every_next p vs n (g.L.LentValue.value c.item.result) c.item.ensures
    ∙ ap (λ b. b && every_item p (items_past (n + 1) vs)) (sym c.holds_in.ensures ∙ c.if-not-holds_in.false)

pub each_element-returns : goal.each_element-returns
each_element-returns g t c =
    let p = λ (v : Value). holds_in (selector_of c.args.inner.now) Plain (Some v) in
    let vs = g.L.LentValue.items c.args.items in
    let end : c.loop-place.place ≡ length (item_list vs) = omega (arith, c.len-count.ensures) in
    ap (λ n. nat_lt 0 n) c.len-count.ensures ∙ each_of_some p vs (c.loop-place.invariant ∙ every_end p vs c.loop-place.place end)
