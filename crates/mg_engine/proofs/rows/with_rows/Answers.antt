use Rattle.std.proofs.Common.{◌++◌, [], ◌∷◌, cond, map, nat_lt, refl, ap₂, ◌∙◌}
use Rattle.mg_value.specs.Text.{compact}
use Rattle.mg_value.specs.Value.{list}
use Rattle.mg_value.specs.View.{items_of}
use Rattle.mg_query.specs.Paged.{shown_view}
use Rattle.mg_engine.specs.Questions.{listed_row}
use Rattle.mg_engine.proofs.RowTexts.{rows_all, rows_more}
use Rattle.mg_engine.proofs.rows.with_rows.Goals as goal

pub loop-place-preserved : goal.loop-place-preserved
loop-place-preserved c =
    let l = c.loop-place in
    let documents = c.args.documents in
    let docs = c.args.docs.now in
    rows_more documents docs l.place c.index-docs-place.result (c.args.out.items ++ compact (list (items_of (map (listed_row documents) (map shown_view docs))))) l.out.items (cond (nat_lt 0 l.place) (44 ∷ []) []) c.in_ok-out.out.items
    c.loop-place-test.true c.index-docs-place.is refl
    (c.in_ok-out.ensures ∙ ap₂ (λ t v. t ++ compact (listed_row documents v)) c.in_ok-begun.ensures c.part.ensures)
    l.invariant

pub returns : goal.returns
returns c =
    let l = c.loop-place in
    let documents = c.args.documents in
    let docs = c.args.docs.now in
    c.in_ok-push-2.ensures.items
    ∙ rows_all documents docs l.place (c.args.out.items ++ compact (list (items_of (map (listed_row documents) (map shown_view docs))))) l.out.items c.loop-place-test.false l.invariant
