use Rattle.std.proofs.Common.{◌≡◌, ℕ, List, length}
use Rattle.std.specs.FinMap.{get}
use Rattle.std.specs.Option.{option_or}
use Rattle.mg_pages.specs.Identified.{id_order}
use Rattle.mg_pages.specs.Order.{Ascends}
use Rattle.mg_shard.specs.Documents.{id_bytes, kept_documents}
use Rattle.mg_shard.specs.Redealt.{documents_view, last_kept}
use Rattle.mg_shard.proofs.placed.add_documents.Given as goal

-- the documents added so far, with those that are left, give each id its document
abbrev pub invariant-loop-document : goal.invariant-loop-document
invariant-loop-document l = record {
  ascends : Ascends (id_order id_bytes) l.document-iterator;
  goes_on : (id : List ℕ) → option_or (get (kept_documents l.document-iterator) id) (last_kept (documents_view l.all.items) id)
      ≡ option_or (get l.shard.documents id) (last_kept (documents_view l.fn.all.items) id);
}

abbrev pub decreases-loop-document : goal.decreases-loop-document
decreases-loop-document l = length l.document-iterator
