use Rattle.std.proofs.Common.{Some, sym, ap, ◌∙◌}
use Rattle.mg_index.specs.Catalog.{definition_at}
use Rattle.mg_index.proofs.catalog.Catalog.find.Goals as goal

pub returns-in-At : goal.returns-in-At
returns-in-At c =
    let there = rw c.deref.ensures.value at (c.in-At.ensures.1 c.index.result.now) in
    sym (ap (definition_at c.args.ddoc.now c.args.name.now) (sym c.self.view_is) ∙ there ∙ ap (λ x. Some x) (sym c.index.ensures))
