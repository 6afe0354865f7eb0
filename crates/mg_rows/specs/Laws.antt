-- What the bytes of rows are for: they are ordered as the rows are, and they give the rows back.
use Rattle.std.specs.Prelude.{◌≡◌, ◌++◌, [], ℕ, List}
use Rattle.mg_value.specs.Value.{Value, Items, no_items, item}
use Rattle.mg_collate.specs.Row.{RowValue, row_value_order}
use Rattle.mg_rows.specs.Bytes.{bytes_order, columns_before, row_bytes, value_before}
use Rattle.mg_value.specs.Stored.{IsStored}
use Rattle.mg_rows.specs.Stored.{IsStoredRow, IsRow}

-- the order of the bytes of two rows is the order of the rows
abbrev pub RowsAreInTheOrderOfTheirBytes : Type 0
RowsAreInTheOrderOfTheirBytes = (a b : RowValue) → IsStoredRow a → IsStoredRow b → bytes_order (row_bytes a) (row_bytes b) ≡ row_value_order a b

-- bytes that begin with those of a value determine the value and the bytes after it
abbrev pub BytesGiveTheValue : Type 0
BytesGiveTheValue = (a b : Value) (s t : List ℕ) → IsStored a → IsStored b → value_before a s ≡ value_before b t → (a ≡ b) × (s ≡ t)

-- the bytes of a row determine the row
abbrev pub BytesGiveTheRow : Type 0
BytesGiveTheRow = (a b : RowValue) → IsStoredRow a → IsStoredRow b → row_bytes a ≡ row_bytes b → a ≡ b

-- the bytes of a key and those of an id determine the row
abbrev pub PartsGiveTheRow : Type 0
PartsGiveTheRow = (parts : List ℕ × List ℕ) (a b : RowValue) → IsRow parts a → IsRow parts b → a ≡ b

-- the items of the first, and then those of the second
abbrev pub joined_items : Items → Items → Items
joined_items no_items ws = ws
joined_items (item v vs) ws = item v (joined_items vs ws)

-- the bytes of a row are those of the values of its first columns, and then those of the row of its other columns
abbrev pub FirstColumnsAreAPrefix : Type 0
FirstColumnsAreAPrefix = (first others : Items) (id : List ℕ) → row_bytes (joined_items first others, id) ≡ columns_before first [] ++ row_bytes (others, id)
