use Rattle.std.proofs.Common.{◌≡◌, List, ℕ, true, false, Some, is_some, sym, ap, ap₂, ◌∙◌, subst}
use Rattle.mg_index.specs.Catalog.{definition_at, without_definition}
use Rattle.mg_index.specs.Definition.{design_document}
use Rattle.mg_engine.specs.Commands.{Answer, drop_answer}
use Rattle.mg_engine.specs.Settled.{state_without}
use Rattle.mg_engine.specs.Stands.{StateStandsFor, StateView}
use Rattle.mg_engine.proofs.Indexes.{holds_same, holds_without, none_dropped}
use Rattle.mg_engine.proofs.state.State.drop_index.Goals as goal

abbrev answer : List ℕ → Answer
answer b = record { status = 200; body = b }

pub returns-then-not-has_index-clause-does : goal.returns-then-not-has_index-clause-does
returns-then-not-has_index-clause-does c = λ place w h.
    let ddoc = design_document c.args.ddoc.now in
    let name = c.args.name.now in
    let catalog = c.deref.ensures ∙ ap (λ (s : StateView). s.catalog) c.self.view_is ∙ h.indexes in
    let there : c.has_index.result ≡ is_some (definition_at ddoc name w.indexes) =
    c.has_index.ensures ∙ ap₂ (λ ds t. is_some (definition_at t name ds)) catalog (c.deref-2.ensures ∙ c.in_ok-ddoc.ensures) in
    let none : is_some (definition_at ddoc name w.indexes) ≡ false = sym there ∙ c.if-not-has_index.true in (
      c.in_ok-refusing.ensures ∙ ap (λ b. Some (drop_answer b)) (sym none),
      holds_same place (without_definition ddoc name w.indexes) c.args.self.now w (none_dropped ddoc name w.indexes none) h,
    )

pub returns-clause-does : goal.returns-clause-does
returns-clause-does c = λ place w h.
    let ddoc = design_document c.args.ddoc.now in
    let name = c.args.name.now in
    let catalog = c.deref.ensures ∙ ap (λ (s : StateView). s.catalog) c.self.view_is ∙ h.indexes in
    let there : c.has_index.result ≡ is_some (definition_at ddoc name w.indexes) =
    c.has_index.ensures ∙ ap₂ (λ ds t. is_some (definition_at t name ds)) catalog (c.deref-2.ensures ∙ c.in_ok-ddoc.ensures) in
    let some : is_some (definition_at ddoc name w.indexes) ≡ true = sym there ∙ c.if-not-has_index.false in
    let next = c.in_ok-next.ensures ∙ ap (λ t. state_without t name c.args.self.now) (c.deref-3.ensures ∙ c.in_ok-ddoc.ensures) in (
      ap (λ b. Some (answer b)) c.in_ok-body.ensures ∙ ap (λ b. Some (drop_answer b)) (sym some),
      subst (λ (s : StateView). StateStandsFor place s (record w { indexes = without_definition ddoc name w.indexes })) (sym next) (holds_without place ddoc name c.args.self.now w h),
    )
