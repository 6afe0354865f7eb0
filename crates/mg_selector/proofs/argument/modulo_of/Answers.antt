use Rattle.std.proofs.Common.{sym, ap}
use Rattle.std.specs.Result.{result_err}
use Rattle.mg_selector.proofs.Elements.{modulo_of-other}
use Rattle.mg_selector.proofs.argument.modulo_of.Goals as goal

pub returns-then-items-ne2-clause-operator : goal.returns-then-items-ne2-clause-operator
returns-then-items-ne2-clause-operator c = modulo_of-other c.args.items.now c.if-items-ne2.true

pub returns-then-items-ne2-clause-fault : goal.returns-then-items-ne2-clause-fault
returns-then-items-ne2-clause-fault c = sym (ap result_err (modulo_of-other c.args.items.now c.if-items-ne2.true))
