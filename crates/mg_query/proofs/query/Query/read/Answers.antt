use Rattle.std.proofs.Common.{Err, unwrap_or, sym, ap, ◌∙◌, subst}
use Rattle.mg_value.specs.View.{view}
use Rattle.mg_query.specs.Query.{query_of}
use Rattle.mg_query.specs.View.{ReadsAs, query_view}
use Rattle.mg_query.specs.declared.error.QueryError.{QueryError}
use Rattle.mg_query.proofs.Faults.{early_first, first_fault, no_fault}
use Rattle.mg_query.proofs.query.Query.read.Goals as goal

pub returns-in-Ok-clause-refused : goal.returns-in-Ok-clause-refused
returns-in-Ok-clause-refused c = λ e first.
    let v = view c.args.body.now in
    absurd (no_fault (query_of v) (query_view c.in-Ok.query) e c.in-Ok.ensures (early_first v e first))

pub returns-in-Err-clause-query : goal.returns-in-Err-clause-query
returns-in-Err-clause-query c =
    let v = view c.args.body.now in
    let P : QueryError → Type 0 = λ e. ReadsAs query_view (Err e) (query_of v) in
    subst P (sym c.first_fault.ensures) (first_fault v c.in-Err.fault c.in-Err.ensures)

pub returns-in-Err-clause-refused : goal.returns-in-Err-clause-refused
returns-in-Err-clause-refused c = λ e first. ap Err (c.first_fault.ensures ∙ ap (λ o. unwrap_or o c.in-Err.fault) first)
