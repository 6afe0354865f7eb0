use Rattle.std.proofs.Common.{Result, sym, subst}
use Rattle.mg_query.specs.Query.{Query}
use Rattle.mg_query.specs.declared.error.QueryError.{QueryError}
use Rattle.mg_engine.specs.Commands.{answer_of_query}
use Rattle.mg_engine.specs.Answering.{MakesAnswer}
use Rattle.mg_engine.proofs.query.page_line.Goals as goal

pub returns : goal.returns
returns g c = λ place w st whole ix.
    subst (λ (r : Result Query QueryError). MakesAnswer c.answer_line.result (answer_of_query w r)) (sym c.in_ok-query.ensures.query) (c.answer_line.ensures place w st whole ix)
