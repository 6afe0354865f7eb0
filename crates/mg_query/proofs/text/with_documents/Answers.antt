use Rattle.std.proofs.Common.{◌++◌, [], ◌∷◌, cond, map, nat_lt, refl, ap, ◌∙◌}
use Rattle.mg_value.specs.Text.{compact}
use Rattle.mg_value.specs.Value.{list}
use Rattle.mg_value.specs.View.{items_of}
use Rattle.mg_query.specs.Page.{shown_of}
use Rattle.mg_query.specs.View.{query_view}
use Rattle.mg_query.proofs.Showing.{text_all, text_more}
use Rattle.mg_query.proofs.text.with_documents.Goals as goal

pub loop-place-preserved : goal.loop-place-preserved
loop-place-preserved c = λ columns cs l.
    let q = query_view c.args.query.now in
    let i = c.loop-place.place in
    text_more q columns c.args.hits.now cs i c.index-hits-place.result (c.args.out.items ++ compact (list (items_of (map (shown_of q) cs)))) c.loop-place.out.items (cond (nat_lt 0 i) (44 ∷ []) []) c.in_ok-out.out.items l
    c.loop-place-test.true c.index-hits-place.is refl
    (λ d k. c.in_ok-out.ensures columns d k ∙ ap (λ t. t ++ compact (shown_of q d)) c.in_ok-begun.ensures)
    (c.loop-place.invariant columns cs l)

pub returns : goal.returns
returns c = λ columns cs l.
    let q = query_view c.args.query.now in
    c.in_ok-push-2.ensures.items
    ∙ text_all q columns c.args.hits.now cs c.loop-place.place (c.args.out.items ++ compact (list (items_of (map (shown_of q) cs)))) c.loop-place.out.items l c.loop-place-test.false (c.loop-place.invariant columns cs l)
