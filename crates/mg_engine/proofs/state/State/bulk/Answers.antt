use Rattle.std.proofs.Common.{◌≡◌, IfOk, Some, unwrap_or, subst}
use Rattle.mg_value.specs.Value.{Value}
use Rattle.mg_engine.specs.Commands.{bulk, next, reply_of}
use Rattle.mg_engine.specs.Stands.{StateStandsFor}
use Rattle.mg_engine.specs.View.{reply_view}
use Rattle.mg_engine.specs.World.{World}
use Rattle.mg_engine.proofs.state.State.bulk.Goals as goal

pub returns-clause-does : goal.returns-clause-does
returns-clause-does g c =
    let place = g.P.Placement.place c.args.placement.now in
    let Does : Value → Type 0 = λ v. IfOk c.packed_bulk.result (λ r. (w : World) → StateStandsFor place c.args.self.now w
    → (reply_view r.0 ≡ Some (reply_of w (bulk v))) × StateStandsFor place (unwrap_or r.1 c.args.self.now) (next w (bulk v))) in
    subst Does c.in_ok-body.ensures c.packed_bulk.ensures.does
