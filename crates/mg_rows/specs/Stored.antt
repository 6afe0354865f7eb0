-- Rows and keys that the code can hold, and their bytes.
use Rattle.std.specs.Prelude.{◌≡◌, ℕ, List, [], IsUtf8}
use Rattle.mg_value.specs.Stored.{AreStored}
use Rattle.mg_value.specs.Value.{Items}
use Rattle.mg_collate.specs.Row.{RowValue}
use Rattle.mg_rows.specs.Bytes.{columns_before, row_parts}

-- the code can hold the key and the id of the row
abbrev pub IsStoredRow : RowValue → Type 0
IsStoredRow row = AreStored row.0 × IsUtf8 row.1

-- the code can hold the row, and the two parts are the bytes of its key, with the byte that ends it, and those of its id
abbrev pub IsRow : List ℕ × List ℕ → RowValue → Type 0
IsRow parts row = IsStoredRow row × (parts ≡ row_parts row)

-- the code can hold the key, and these are the bytes of its values, without the byte that ends a key
abbrev pub IsKey : List ℕ → Items → Type 0
IsKey bytes key = AreStored key × (bytes ≡ columns_before key [])
