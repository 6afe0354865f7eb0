use Rattle.mg_shard.specs.Documents.{kept_documents}
use Rattle.mg_shard.specs.Redealt.{documents_view}
use Rattle.mg_shard.proofs.Redealing.{KeepsSoFar}
use Rattle.mg_shard.proofs.placed.documents_at.Given as goal

-- `there` has those of the documents so far that are placed there
abbrev pub invariant-loop-k : goal.invariant-loop-k
invariant-loop-k l = KeepsSoFar (documents_view l.documents) l.places l.place l.k (kept_documents l.there)
