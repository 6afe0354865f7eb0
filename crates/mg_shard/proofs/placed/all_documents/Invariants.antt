use Rattle.std.proofs.Common.{◌≡◌, ℕ, List, take}
use Rattle.mg_shard.specs.Redealt.{documents_in, documents_view, kept_in, last_kept}
use Rattle.mg_shard.specs.Shard.{shards_view}
use Rattle.mg_shard.proofs.placed.all_documents.Given as goal

-- the list gives each id the document that the shards so far keep of it
abbrev pub invariant-loop-shard : goal.invariant-loop-shard
invariant-loop-shard l = (id : List ℕ) → last_kept (documents_view l.all.items) id ≡ kept_in (documents_in (shards_view (take l.shard-index l.shards))) id
