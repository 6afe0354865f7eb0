use Rattle.std.proofs.Common.{◌≡◌, ◌∙◌, List, ap, false, sym, true}
use Rattle.mg_pages.specs.Identified.{id_order}
use Rattle.mg_pages.specs.Order.{inserted, removed}
use Rattle.mg_shard.specs.Documents.{id_bytes, is_deleted}
use Rattle.mg_shard.specs.declared.document.Document.{Document}
use Rattle.mg_shard.proofs.Deleted.{filter-inserted, filter-replaced}
use Rattle.mg_shard.proofs.document_pages.mend_deleted.Goals as goal

pub returns-in_ok-insert : goal.returns-in_ok-insert
returns-in_ok-insert c = λ ds was.
    let d : Document = c.args.document.now in
    let is : is_deleted d ≡ true = ap is_deleted (sym c.get.ensures) ∙ sym c.is_deleted.ensures ∙ c.if-is_deleted.true in
    c.in_ok-insert.ensures.ok ∙ ap (λ (x : Document). inserted (id_order id_bytes) x c.args.deleted.now) c.in_ok-again.ensures
    ∙ ap (λ (xs : List Document). inserted (id_order id_bytes) d xs) was ∙ sym (filter-inserted is_deleted (id_order id_bytes) d ds is)

pub returns-in_ok-remove : goal.returns-in_ok-remove
returns-in_ok-remove c = λ ds was.
    let d : Document = c.args.document.now in
    let is : is_deleted d ≡ false = ap is_deleted (sym c.get.ensures) ∙ sym c.is_deleted.ensures ∙ c.if-is_deleted.false in
    c.in_ok-remove.ensures.ok ∙ ap (λ (xs : List Document). removed (id_order id_bytes d) xs) was ∙ sym (filter-replaced is_deleted (id_order id_bytes) d ds is)
