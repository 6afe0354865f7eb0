use Rattle.std.proofs.Common.{◌≡◌, ◌∙◌, Err, List, ap, map, sym, subst}
use Rattle.mg_index.specs.Definition.{IndexDefinition}
use Rattle.mg_query.specs.Page.{answer_of, candidates_of}
use Rattle.mg_query.specs.Paged.{lent_page_view, shown_view}
use Rattle.mg_query.specs.declared.shown.Shown.{Shown}
use Rattle.mg_query.specs.View.{query_view}
use Rattle.mg_engine.specs.Answering.{MakesAnswer}
use Rattle.mg_engine.specs.Commands.{shown_or_refused}
use Rattle.mg_engine.specs.Faults.{fault_of, refusal_of_page}
use Rattle.mg_engine.specs.Bodies.{line_of}
use Rattle.mg_engine.specs.Listing.{offset_of}
use Rattle.mg_engine.specs.Questions.{doc_count, listed_row, range_value, rows_value}
use Rattle.mg_engine.specs.QuestionView.{listing_view}
use Rattle.mg_engine.specs.declared.fault.Fault.{Fault}
use Rattle.mg_engine.proofs.Pages.{not_answered, value_shown}
use Rattle.mg_engine.proofs.range.listed_line.Goals as goal

pub returns-in_ok-line-in-Ok : goal.returns-in_ok-line-in-Ok
returns-in_ok-line-in-Ok g c = λ place w st whole ix.
    let q = query_view c.args.query.now in
    let cs = candidates_of w.docs in
    let l = listing_view c.args.listing.now in
    let body = c.in_ok-line-in-Ok.line.items in
    subst (λ (ds : List IndexDefinition). shown_or_refused (range_value w.docs l) (answer_of ds q cs) ≡ record { status = 200; body = body }) (sym ix)
    (value_shown (range_value w.docs l) (answer_of c.args.catalog.now q cs) (lent_page_view c.in-Ok.page) body (c.in-Ok.ensures.answers place w.docs st whole)
    (c.in_ok-line-in-Ok.ensures place w.docs st ∙ ap (λ (ds : List Shown). line_of (rows_value (offset_of w.docs l) (doc_count w.docs) (map (listed_row l.documents) (map shown_view ds)))) c.deref.ensures.value))

pub returns-in-Err : goal.returns-in-Err
returns-in-Err g c = λ place w st whole ix.
    let q = query_view c.args.query.now in
    let cs = candidates_of w.docs in
    let l = listing_view c.args.listing.now in
    let fault = c.in-Err.fault in
    subst (λ (f : Fault). MakesAnswer (Err f) (shown_or_refused (range_value w.docs l) (answer_of w.indexes q cs))) (sym c.from.ensures)
    (subst (λ (ds : List IndexDefinition). MakesAnswer (Err (fault_of (refusal_of_page fault))) (shown_or_refused (range_value w.docs l) (answer_of ds q cs))) (sym ix)
    (not_answered (range_value w.docs l) fault (answer_of c.args.catalog.now q cs) (c.in-Err.ensures.answers place w.docs st whole)))
