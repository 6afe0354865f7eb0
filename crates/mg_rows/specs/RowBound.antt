-- Row bounds: a bound is before or after all rows whose key begins with some values.
use Rattle.std.specs.Prelude.{◌≡◌, ℕ, List, [], ◌∷◌}
use Rattle.std.specs.Ordering.{ordering_then}
use Rattle.std.specs.declared.cmp.Ordering.{Ordering}
use Rattle.std.specs.declared.cmp.Ordering.TheVariants.{Less, Greater}
use Rattle.mg_value.specs.Value.{Items, no_items, item}
use Rattle.mg_collate.specs.Order.{items_order}
use Rattle.mg_collate.specs.Row.{RowValue}
use Rattle.mg_rows.specs.Bytes.{columns_before}
use Rattle.mg_value.specs.Stored.{AreStored}
use Rattle.mg_rows.specs.declared.edge.Edge.{Edge}
use Rattle.mg_rows.specs.declared.edge.Edge.TheVariants.{Before, After}

-- the values of a key's first columns: as many as a bound has values, or all where the key has fewer
abbrev pub first_columns : Items → Items → Items
first_columns no_items columns = no_items
first_columns (item v vs) no_items = no_items
first_columns (item v vs) (item w ws) = item w (first_columns vs ws)

-- the order of a bound against the rows whose key begins with its values
abbrev pub edge_order : Edge → Ordering
edge_order Before = Less
edge_order After = Greater

-- the order of a bound against a row: by the values of the first columns, and where these tie by the edge
abbrev pub bound_order : Edge → Items → RowValue → Ordering
bound_order edge values row = ordering_then (items_order values (first_columns values row.0)) (edge_order edge)

-- the bytes after a bound's values: none, or one byte that is above every byte that can follow the values in a row
abbrev pub edge_bytes : Edge → List ℕ
edge_bytes Before = []
edge_bytes After = 255 ∷ []

-- the code can hold the values, and these are the bytes of the bound with this edge and these values
abbrev pub IsRowBound : Edge → List ℕ → Items → Type 0
IsRowBound edge bytes values = AreStored values × (bytes ≡ columns_before values (edge_bytes edge))
