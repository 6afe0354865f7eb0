-- How the logic stores rows and row bounds.
use Rattle.std.specs.Coded.{Coded, coded×, coded_ℕ, coded_list}
use Rattle.mg_value.specs.Value.{Items}
use Rattle.mg_value.specs.Code.{items_code}
use Rattle.mg_collate.specs.Row.{RowValue}
use Rattle.mg_rows.specs.contracts.edge.Edge as edge
use Rattle.mg_rows.specs.declared.edge.Edge.{Edge}

-- how the logic stores a row
abbrev pub row_code : Coded RowValue
row_code = coded× items_code (coded_list coded_ℕ)

-- how the logic stores a bound: its edge and its values
abbrev pub bound_code : Coded (Edge × Items)
bound_code = coded× edge.the_row.coded items_code
