use Rattle.std.proofs.Common.{Result, ap, ◌∙◌, sym, subst}
use Rattle.mg_query.specs.Query.{Query, query_of}
use Rattle.mg_query.specs.declared.error.QueryError.{QueryError}
use Rattle.mg_engine.specs.Answering.{MakesAnswer}
use Rattle.mg_engine.specs.Questions.{range_found}
use Rattle.mg_engine.specs.QuestionView.{listing_view}
use Rattle.mg_engine.proofs.range.range_line.Goals as goal

pub returns : goal.returns
returns g c = λ place w st whole ix.
    let l = listing_view c.args.listing.now in
    subst (λ (r : Result Query QueryError). MakesAnswer c.listed_line.result (range_found w l r)) (sym c.in_ok-query.ensures.query ∙ ap query_of c.in_ok-body.ensures) (c.listed_line.ensures place w st whole ix)
