-- The rows of an index made from scratch, as the CouchDB 3.x API reference has them for JSON indexes: a document has a row if it has
-- every column.
use Rattle.std.specs.Prelude.{List, Option, option_map}
use Rattle.std.specs.List.{filter_map}
use Rattle.mg_value.specs.Value.{Value, Items}
use Rattle.mg_value.specs.View.{items_of}
use Rattle.mg_collate.specs.Row.{RowValue, row_value_order}
use Rattle.mg_collate.specs.Sorted.{sorted}
use Rattle.mg_index.specs.Definition.{Steps}
use Rattle.mg_index.specs.Key.{key_of}
use Rattle.mg_shard.specs.Histories.{ServedDocument}

-- the key of a document as a row holds it; `None` if the document lacks a column
abbrev pub row_key : List Steps → Value → Option Items
row_key columns form = option_map items_of (key_of columns form)

-- the row of a served document, if it has every column: its key, and its id
abbrev pub row_of : List Steps → ServedDocument → Option RowValue
row_of columns d = option_map (λ key. (key, d.0)) (row_key columns d.1)

-- the rows of those documents that have every column, in the order of key, then id
abbrev pub rows_of : List Steps → List ServedDocument → List RowValue
rows_of columns ds = sorted row_value_order (filter_map (row_of columns) ds)
