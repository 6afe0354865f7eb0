-- For private clauses: how the rows of an index are mended when a document changes.
use Rattle.std.specs.Prelude.{◌≡◌, ℕ, List, Option, Some, None, option_and_then, option_map}
use Rattle.mg_value.specs.Value.{Value}
use Rattle.mg_collate.specs.Row.{RowValue, row_value_order}
use Rattle.mg_index.specs.Definition.{Steps}
use Rattle.mg_pages.specs.Order.{inserted, removed}
use Rattle.mg_shard.specs.Rows.{row_of}

-- the row of the document with this id and served form, if it is served and has every column
abbrev pub own_row : List Steps → List ℕ → Option Value → Option RowValue
own_row columns id form = option_and_then (row_of columns) (option_map (λ v. (id, v)) form)

-- with any id, a document has equal rows with both forms, or no row with either. A form of `None`: the document is not served
abbrev pub HaveSameRow : List Steps → Option Value → Option Value → Type 0
HaveSameRow columns form other = (id : List ℕ) → own_row columns id form ≡ own_row columns id other

-- the rows without this one, if one is given
abbrev pub without_row : Option RowValue → List RowValue → List RowValue
without_row None rows = rows
without_row (Some r) rows = removed (row_value_order r) rows

-- the rows with this one, if one is given
abbrev pub with_row : Option RowValue → List RowValue → List RowValue
with_row None rows = rows
with_row (Some r) rows = inserted row_value_order r rows
