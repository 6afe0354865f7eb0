-- For private clauses: the lists of rows that a build makes, shard by shard.
use Rattle.std.specs.Prelude.{◌≡◌, ℕ, ◌+◌, List, Some, Result, IfOk, slice_get}
use Rattle.mg_collate.specs.Row.{RowValue}
use Rattle.mg_index.specs.Definition.{IndexDefinition}
use Rattle.mg_shard.specs.Documents.{docs_of}
use Rattle.mg_shard.specs.Rows.{rows_of}
use Rattle.mg_shard.specs.Shard.{ShardView}
use Rattle.mg_value.specs.declared.error.NoMemory.{NoMemory}

-- if there is an i-th shard, counted from 0, the result has the rows that the index has there, unless an allocation failed
abbrev pub HasRowsAt : IndexDefinition → List ShardView → ℕ → Result (List RowValue) NoMemory → Type 0
HasRowsAt d shards i r = IfOk r (λ v. (s : ShardView) → slice_get shards i ≡ Some s → v ≡ rows_of d.columns (docs_of s.documents))

-- each result has the rows that the index has in the shard of the same number, unless an allocation failed
abbrev pub AreRowsAt : IndexDefinition → List ShardView → List (Result (List RowValue) NoMemory) → Type 0
AreRowsAt d shards rs = (i : ℕ) (r : Result (List RowValue) NoMemory) → slice_get rs i ≡ Some r → HasRowsAt d shards i r

-- the i-th result has the rows that the index has in the shard with the number from + i, unless an allocation failed
abbrev pub AreRowsFrom : IndexDefinition → List ShardView → ℕ → List (Result (List RowValue) NoMemory) → Type 0
AreRowsFrom d shards from rs = (i : ℕ) (r : Result (List RowValue) NoMemory) → slice_get rs i ≡ Some r → HasRowsAt d shards (from + i) r
