use Rattle.std.proofs.Common.{◌+◌, ◌++◌, [], ◌∷◌, map, drop, ap, ◌∙◌}
use Rattle.std.proofs.lemmas.List.{map-append}
use Rattle.mg_query.specs.Page.{shown_of}
use Rattle.mg_query.specs.Paged.{shown_view}
use Rattle.mg_query.specs.View.{query_view}
use Rattle.mg_query.proofs.Showing.{shown_all, shown_more}
use Rattle.mg_query.proofs.answer.lend_all.Goals as goal

pub loop-hit-preserved : goal.loop-hit-preserved
loop-hit-preserved c = λ columns cs l.
    let q = query_view c.args.query.now in
    let i = c.loop-hit.hit-index in
    ap (λ values. values ++ map (shown_of q) (drop (i + 1) cs)) (ap (map shown_view) c.in_ok-push.ensures.items ∙ map-append shown_view c.loop-hit.docs.items (c.in_ok-doc.doc ∷ []))
    ∙ shown_more q columns c.args.hits.now cs i c.hit-item.result (map shown_view c.loop-hit.docs.items) (shown_view c.in_ok-doc.doc) l c.loop-hit-test.true c.hit-item.is (c.in_ok-doc.ensures columns)
    (c.loop-hit.invariant columns cs l)

pub returns : goal.returns
returns c = λ columns cs l.
    shown_all (query_view c.args.query.now) columns c.args.hits.now cs c.loop-hit.hit-index (map shown_view c.loop-hit.docs.items) l c.loop-hit-test.false (c.loop-hit.invariant columns cs l)
