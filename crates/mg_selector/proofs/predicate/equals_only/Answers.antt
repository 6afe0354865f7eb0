use Rattle.std.proofs.Common.{◌∙◌}
use Rattle.mg_selector.proofs.Elements.{equals_only-one, equals_only-other}
use Rattle.mg_selector.proofs.predicate.equals_only.Goals as goal

pub returns-else-arguments-eq1 : goal.returns-else-arguments-eq1
returns-else-arguments-eq1 g c = equals_only-other c.args.arguments.now (g.L.LentValue.value c.args.value) c.if-arguments-eq1.false

pub returns-then-arguments-eq1 : goal.returns-then-arguments-eq1
returns-then-arguments-eq1 g c = c.are_equal.ensures ∙ equals_only-one c.args.arguments.now c.index-arguments-0.result (g.L.LentValue.value c.args.value) c.if-arguments-eq1.true c.index-arguments-0.is
