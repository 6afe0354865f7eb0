use Rattle.std.proofs.Common.{sym, ◌∙◌}
use Rattle.mg_value.specs.View.{view}
use Rattle.mg_query.specs.Given.{given_view}
use Rattle.mg_query.proofs.Faults.{fault_lent, fault_none}
use Rattle.mg_query.proofs.fault.fault_of.Goals as goal

pub returns-in-Some : goal.returns-in-Some
returns-in-Some c = c.members_fault.ensures ∙ sym (fault_lent (view c.args.body.now) (given_view c.in-Some.members) (sym c.in-Some.ensures))

pub returns-in-None : goal.returns-in-None
returns-in-None c = sym (fault_none (view c.args.body.now) (sym c.in-None.ensures))
