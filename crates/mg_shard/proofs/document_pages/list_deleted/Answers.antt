use Rattle.std.proofs.Common.{◌≡◌, ◌++◌, ◌∙◌, List, append-nil, ap, subst}
use Rattle.mg_pages.specs.Identified.{id_order}
use Rattle.mg_pages.specs.Order.{Ascends}
use Rattle.mg_shard.specs.Documents.{deleted_among, id_bytes, is_deleted}
use Rattle.mg_shard.specs.declared.document.Document.{Document}
use Rattle.mg_shard.proofs.Deleted.{ascends-filter}
use Rattle.mg_shard.proofs.document_pages.list_deleted.Goals as goal

pub returns-clause-ascends : goal.returns-clause-ascends
returns-clause-ascends c =
    let l = c.loop-document in
    let listed : deleted_among c.args.all.now ≡ l.listed.items = l.invariant ∙ ap (λ (ds : List Document). l.listed.items ++ deleted_among ds) c.in-None.ensures.steps.0 ∙ append-nil l.listed.items in
    subst (λ (ds : List Document). Ascends (id_order id_bytes) ds) listed (ascends-filter (id_order id_bytes) is_deleted c.args.all.now c.ascends.ensures)
