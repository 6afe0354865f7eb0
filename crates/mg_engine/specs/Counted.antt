-- For private clauses: how many documents shards have together.
use Rattle.std.specs.Prelude.{ℕ, List, filter, length}
use Rattle.std.specs.List.{sum_by}
use Rattle.mg_collate.specs.declared.direction.Direction.{Direction}
use Rattle.mg_shard.specs.Documents.{deleted_of, docs_of}
use Rattle.mg_shard.specs.Shard.{ShardView}
use Rattle.mg_engine.specs.Listing.{comes_before}

-- how many documents of these shards are not deleted
abbrev pub docs_counted : List ShardView → ℕ
docs_counted shards = sum_by (λ s. length (docs_of s.documents)) shards

-- how many documents of these shards are deleted
abbrev pub deleted_counted : List ShardView → ℕ
deleted_counted shards = sum_by (λ s. length (deleted_of s.documents)) shards

-- how many documents of these shards come before an id in a direction, without the deleted ones
abbrev pub counted_before : Direction → List ℕ → List ShardView → ℕ
counted_before direction start shards = sum_by (λ s. length (filter (λ d. comes_before direction start d.0) (docs_of s.documents))) shards
