use Rattle.std.proofs.Common.{Some, sym, ap, ◌∙◌, subst}
use Rattle.mg_value.specs.View.{view}
use Rattle.mg_index.specs.Reading.{definition_of}
use Rattle.mg_engine.specs.Stands.{StateStandsFor}
use Rattle.mg_engine.specs.World.{World}
use Rattle.mg_engine.proofs.Indexes.{not_read}
use Rattle.mg_engine.proofs.state.State.create_index.Goals as goal

pub returns-in_ok-refusing-in-Refused-clause-does : goal.returns-in_ok-refusing-in-Refused-clause-does
returns-in_ok-refusing-in-Refused-clause-does g c = λ place w h.
    let r = not_read w c.in-Err.fault (definition_of (view c.args.body.now)) c.in-Refused.refusal c.in-Err.ensures.reading (sym c.in-Refused.ensures) in
    (c.in_ok-refusing-in-Refused.ensures ∙ ap Some (sym r.0), subst (λ (u : World). StateStandsFor place c.args.self.now u) (sym r.1) h)
