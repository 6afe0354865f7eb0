use Rattle.std.proofs.Common.{◌≡◌, sym, ap, ◌∙◌, subst}
use Rattle.mg_index.specs.Catalog.{with_definition}
use Rattle.mg_engine.specs.Stands.{StateStandsFor, StateView}
use Rattle.mg_engine.proofs.Indexes.{holds_same, holds_with}
use Rattle.mg_engine.proofs.state.State.with_definition.Goals as goal

pub returns-in_ok-state-clause-stands : goal.returns-in_ok-state-clause-stands
returns-in_ok-state-clause-stands g c = λ place w h.
    let d = c.args.definition in
    let same : with_definition d w.indexes ≡ w.indexes = ap (with_definition d) (sym h.indexes) ∙ c.requires.same c.if-there.true ∙ h.indexes in
    subst (λ (s : StateView). StateStandsFor place s (record w { indexes = with_definition d w.indexes })) (sym c.in_ok-state.ensures) (holds_same place (with_definition d w.indexes) c.args.self.now w same h)

pub returns-in_ok-state-2-clause-stands : goal.returns-in_ok-state-2-clause-stands
returns-in_ok-state-2-clause-stands g c = λ place w h.
    let d = c.args.definition in
    subst (λ (s : StateView). StateStandsFor place s (record w { indexes = with_definition d w.indexes })) (sym c.in_ok-state-2.ensures) (holds_with place d c.args.self.now w h)
