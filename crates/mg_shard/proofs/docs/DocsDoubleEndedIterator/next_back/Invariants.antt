use Rattle.std.proofs.Common.{◌≡◌, length}
use Rattle.mg_shard.specs.Documents.{docs_in}
use Rattle.mg_shard.proofs.docs.DocsDoubleEndedIterator.next_back.Given as goal

-- the skipped documents are not served
abbrev pub invariant-loop-document : goal.invariant-loop-document
invariant-loop-document l = docs_in l.self-inside.documents ≡ l.fn.self

abbrev pub decreases-loop-document : goal.decreases-loop-document
decreases-loop-document l = length l.self-inside.documents
