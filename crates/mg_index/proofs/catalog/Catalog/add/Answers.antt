use Rattle.std.proofs.Common.{◌≡◌, Some, set, sym, subst, ap, ap₂, ◌∙◌}
use Rattle.std.specs.List.{insert}
use Rattle.mg_index.specs.Catalog.{IsCatalog, with_definition, definition_at}
use Rattle.mg_index.proofs.Catalogs.{IsCatalog-with, found_same, found_other}
use Rattle.mg_index.proofs.catalog.Catalog.add.Goals as goal
use Rattle.mg_index.proofs.catalog.Catalog.add.Goals.{then-is_same, else-is_same}

pub invariant_of-self : goal.invariant_of-self
invariant_of-self c =
    let ds = c.self.inside.definitions.items in
    let e : with_definition c.args.definition ds ≡ set ds c.in-At.place c.args.definition = rw c.deref.ensures.value at (c.in-At.ensures.3 c.args.definition (sym c.ddoc.ensures) (sym c.name.ensures)) in
    subst IsCatalog e (IsCatalog-with c.args.definition ds c.self.invariant)

pub invariant_of-self-in-Before : goal.invariant_of-self-in-Before
invariant_of-self-in-Before c =
    let ds = c.self.inside.definitions.items in
    let e : with_definition c.args.definition ds ≡ insert ds c.in-Before.place c.args.definition = rw c.deref.ensures.value at (c.in-Before.ensures.3 c.args.definition (sym c.ddoc.ensures) (sym c.name.ensures)) in
    subst IsCatalog (e ∙ sym c.in_ok-insert-in-Before.ensures.items) (IsCatalog-with c.args.definition ds c.self.invariant)

pub returns-after-is_same-clause-exists : goal.returns-after-is_same-clause-exists
returns-after-is_same-clause-exists c =
    let d = c.args.definition in
    let there = rw c.deref.ensures.value at (c.in-At.ensures.1 c.index.result.now) in
    let found : definition_at d.ddoc d.name c.args.self.now ≡ Some c.index.result.now =
    sym (ap₂ (λ ddoc name. definition_at ddoc name c.args.self.now) c.ddoc.ensures c.name.ensures)
    ∙ ap (definition_at c.ddoc.result.now c.name.result.now) (sym c.self.view_is) ∙ there ∙ ap (λ x. Some x) (sym c.index.ensures) in
    elim c.if-is_same.branch [
      | then-is_same w ↦ λ h. found_same d c.index.result.now _ found (sym c.is_same.ensures ∙ w.if-is_same.true)
      | else-is_same w ↦ λ h. absurd (cc (h, w.added-is))
    ]

pub returns-after-is_same-clause-created : goal.returns-after-is_same-clause-created
returns-after-is_same-clause-created c =
    let d = c.args.definition in
    let there = rw c.deref.ensures.value at (c.in-At.ensures.1 c.index.result.now) in
    let found : definition_at d.ddoc d.name c.args.self.now ≡ Some c.index.result.now =
    sym (ap₂ (λ ddoc name. definition_at ddoc name c.args.self.now) c.ddoc.ensures c.name.ensures)
    ∙ ap (definition_at c.ddoc.result.now c.name.result.now) (sym c.self.view_is) ∙ there ∙ ap (λ x. Some x) (sym c.index.ensures) in
    elim c.if-is_same.branch [
      | then-is_same w ↦ λ h. absurd (cc (h, w.added-is))
      | else-is_same w ↦ λ h. found_other d c.index.result.now _ found (sym c.is_same.ensures ∙ w.if-is_same.false)
    ]
