use Rattle.std.proofs.Common.{◌∙◌, List, ap}
use Rattle.mg_pages.specs.Order.{removed}
use Rattle.mg_shard.specs.Index.{Index, name_against}
use Rattle.mg_shard.proofs.Catalogued.{removed-named}
use Rattle.mg_shard.proofs.index_list.remove_index.Goals as goal

pub returns : goal.returns
returns c =
    let ddoc = c.args.ddoc.now in
    let name = c.args.name.now in
    c.in_ok-remove.ensures.ok ∙ ap (λ (xs : List Index). removed (name_against ddoc name) xs) c.in_ok-left.ensures ∙ removed-named ddoc name c.args.indexes.now c.ascends.ensures
