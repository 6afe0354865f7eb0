use Rattle.std.proofs.lemmas.Result.{IfOk-weaker}
use Rattle.mg_engine.specs.Commands.{bulk}
use Rattle.mg_engine.proofs.state.State.packed_bulk.Goals as goal

pub returns-clause-does : goal.returns-clause-does
returns-clause-does g c = IfOk-weaker c.apply.result _ _ (λ r does. does (bulk c.args.body.now) c.in_ok-read.ensures) c.apply.ensures.does
