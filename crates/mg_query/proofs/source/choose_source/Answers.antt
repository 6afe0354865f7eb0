use Rattle.std.proofs.Common.{◌≡◌, Some, get_or, ap, sym, ◌∙◌}
use Rattle.std.proofs.lemmas.Option.{get_or_from_slice_get}
use Rattle.mg_index.specs.Choice.{defined}
use Rattle.mg_index.specs.Definition.{IndexDefinition}
use Rattle.mg_query.specs.View.{query_view}
use Rattle.mg_query.proofs.Listed.{choice_listed}
use Rattle.mg_query.proofs.source.choose_source.Goals as goal

pub returns-in-Ok-Index-clause-listed : goal.returns-in-Ok-Index-clause-listed
returns-in-Ok-Index-clause-listed c =
    let ds = c.args.catalog.now in
    let q = query_view c.args.query.now in
    let d : IndexDefinition = c.index-list-place.result in
    let chosen = rw c.in-Ok-Index.field-0-is at c.in-Ok-Index.ensures in
    let same : d ≡ chosen.0 = c.index-list-place.is ∙ ap (λ xs. get_or xs c.in-Ok-Index.place d) c.list.ensures.all ∙ get_or_from_slice_get ds c.in-Ok-Index.place chosen.0 d chosen.1 in
    choice_listed ds c.args.query.now.normal.atoms q.sort q.hint (defined d) c.list.ensures.in_order (chosen.2 ∙ ap (λ x. Some (defined x)) (sym same))
