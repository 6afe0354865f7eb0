use Rattle.std.proofs.Common.{◌≡◌, List, sym, subst}
use Rattle.mg_index.specs.Definition.{IndexDefinition}
use Rattle.mg_query.specs.Page.{answer_of, candidates_of, page_value}
use Rattle.mg_query.specs.View.{query_view}
use Rattle.mg_engine.specs.Commands.{shown_or_refused}
use Rattle.mg_engine.proofs.Pages.{page_shown}
use Rattle.mg_engine.proofs.query.answer_line.Goals as goal

pub returns : goal.returns
returns g c = λ place w st whole ix.
    let q = query_view c.args.query.now in
    let cs = candidates_of w.docs in
    let body = c.in_ok-line.line.items in
    subst (λ (ds : List IndexDefinition). shown_or_refused page_value (answer_of ds q cs) ≡ record { status = 200; body = body }) (sym ix)
    (page_shown (answer_of c.args.catalog.now q cs) c.in_ok-text.text.items body (c.in_ok-text.ensures.answers place w.docs st whole) c.in_ok-line.ensures)
