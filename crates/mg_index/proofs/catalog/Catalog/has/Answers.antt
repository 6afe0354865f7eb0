use Rattle.std.proofs.Common.{◌≡◌, Some, false, sym, ap, ap₂, ◌∙◌, subst}
use Rattle.std.specs.Option.{option_map_or}
use Rattle.mg_index.specs.Catalog.{IsCatalog, definition_at}
use Rattle.mg_index.specs.Same.{is_same_definition}
use Rattle.mg_index.proofs.Catalogs.{kept_there}
use Rattle.mg_index.proofs.catalog.Catalog.has.Goals as goal

pub returns-in-At-clause-there : goal.returns-in-At-clause-there
returns-in-At-clause-there c =
    let d = c.args.definition.now in
    let there = rw c.deref.ensures.value at (c.in-At.ensures.1 c.index.result.now) in
    let found : definition_at d.ddoc d.name c.args.self.now ≡ Some c.index.result.now =
    sym (ap₂ (λ ddoc name. definition_at ddoc name c.args.self.now) c.ddoc.ensures c.name.ensures)
    ∙ ap (definition_at c.ddoc.result.now c.name.result.now) (sym c.self.view_is) ∙ there ∙ ap (λ x. Some x) (sym c.index.ensures) in
    c.is_same.ensures ∙ ap (λ o. option_map_or (is_same_definition d) o false) (sym found)

pub returns-in-At-clause-same : goal.returns-in-At-clause-same
returns-in-At-clause-same c = λ h.
    let d = c.args.definition.now in
    let there = rw c.deref.ensures.value at (c.in-At.ensures.1 c.index.result.now) in
    let found : definition_at d.ddoc d.name c.args.self.now ≡ Some c.index.result.now =
    sym (ap₂ (λ ddoc name. definition_at ddoc name c.args.self.now) c.ddoc.ensures c.name.ensures)
    ∙ ap (definition_at c.ddoc.result.now c.name.result.now) (sym c.self.view_is) ∙ there ∙ ap (λ x. Some x) (sym c.index.ensures) in
    kept_there d c.args.self.now (subst IsCatalog c.self.view_is c.self.invariant) (ap (λ o. option_map_or (is_same_definition d) o false) found ∙ sym c.is_same.ensures ∙ h)
