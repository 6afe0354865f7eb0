use Rattle.std.proofs.Common.{◌≡◌, ◌++◌, length}
use Rattle.mg_shard.specs.Documents.{deleted_among}
use Rattle.mg_shard.proofs.document_pages.list_deleted.Given as goal

-- the deleted documents so far, with those that are left, are all deleted ones
abbrev pub invariant-loop-document : goal.invariant-loop-document
invariant-loop-document l = deleted_among l.all ≡ l.listed.items ++ deleted_among l.document-iterator

abbrev pub decreases-loop-document : goal.decreases-loop-document
decreases-loop-document l = length l.document-iterator
