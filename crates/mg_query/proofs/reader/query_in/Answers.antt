use Rattle.std.proofs.Common.{subst, sym, ◌∙◌, ap}
use Rattle.mg_value.specs.View.{view}
use Rattle.mg_query.specs.Given.{given_view, query_given}
use Rattle.mg_query.specs.View.{ReadsAs, query_view}
use Rattle.mg_query.proofs.Shapes.{of_lent, of_none}
use Rattle.mg_query.proofs.reader.query_in.Goals as goal

pub returns-in-Some : goal.returns-in-Some
returns-in-Some c =
    let members = of_lent (view c.args.body.now) (given_view c.in-Some.members) (sym c.in-Some.ensures) in
    subst (ReadsAs query_view c.query_with.result) (ap (λ f. query_given f (given_view c.in-Some.members)) c.member.ensures ∙ sym members) c.query_with.ensures

pub returns-in-None : goal.returns-in-None
returns-in-None c = of_none (view c.args.body.now) (sym c.in-None.ensures)
