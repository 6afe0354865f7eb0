-- Documents that are distributed over shards, each of which lists its own rows.
use Rattle.std.specs.Prelude.{ℕ, List, map}
use Rattle.std.specs.List.{flat_map}
use Rattle.mg_value.specs.Value.{Value}
use Rattle.mg_collate.specs.declared.direction.Direction.{Direction}
use Rattle.mg_collate.specs.Row.{RowValue}
use Rattle.mg_collate.specs.Sorted.{sorted_rows}

-- a document: the bytes of its id, and its body
abbrev pub Document : Type 0
Document = List ℕ × Value

-- the rows of all these documents in a direction's order; `rows` gives the rows of each document
abbrev pub rows_of : Direction → (Document → List RowValue) → List Document → List RowValue
rows_of direction rows documents = sorted_rows direction (flat_map rows documents)

-- what each shard lists: the rows of its own documents
abbrev pub lists_of : Direction → (Document → List RowValue) → List (List Document) → List (List RowValue)
lists_of direction rows shards = map (rows_of direction rows) shards
