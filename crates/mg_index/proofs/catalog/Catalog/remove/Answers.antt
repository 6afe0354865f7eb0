use Rattle.std.proofs.Common.{◌≡◌, sym, subst, ◌∙◌}
use Rattle.std.specs.List.{remove}
use Rattle.mg_index.specs.Catalog.{IsCatalog, without_definition}
use Rattle.mg_index.proofs.Catalogs.{IsCatalog-without}
use Rattle.mg_index.proofs.catalog.Catalog.remove.Goals as goal

pub invariant_of-self : goal.invariant_of-self
invariant_of-self c =
    let ds = c.self.inside.definitions.items in
    let e : without_definition c.args.ddoc.now c.args.name.now ds ≡ remove ds c.in-At.place = rw c.deref.ensures.value at c.in-At.ensures.2 in
    subst IsCatalog (e ∙ sym c.remove.ensures.items) (IsCatalog-without c.args.ddoc.now c.args.name.now ds c.self.invariant)
