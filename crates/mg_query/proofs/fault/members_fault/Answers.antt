use Rattle.std.proofs.Common.{Some, cond, sym, ap, ◌∙◌}
use Rattle.mg_query.specs.Given.{fault_in_turn, given_view}
use Rattle.mg_query.specs.declared.error.QueryError.TheVariants.{Shape}
use Rattle.mg_query.proofs.Faults.{members_fault}
use Rattle.mg_query.proofs.fault.members_fault.Goals as goal

pub returns-then-are_shaped : goal.returns-then-are_shaped
returns-then-are_shaped c =
    let g = given_view c.args.members in
    c.fault_in_turn.ensures ∙ sym (members_fault g ∙ ap (λ b. cond b (fault_in_turn g) (Some Shape)) (sym c.are_shaped.ensures ∙ c.if-are_shaped.true))

pub returns-else-are_shaped : goal.returns-else-are_shaped
returns-else-are_shaped c =
    let g = given_view c.args.members in
    sym (members_fault g ∙ ap (λ b. cond b (fault_in_turn g) (Some Shape)) (sym c.are_shaped.ensures ∙ c.if-are_shaped.false))
