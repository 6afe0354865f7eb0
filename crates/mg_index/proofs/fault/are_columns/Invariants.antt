use Rattle.std.proofs.Common.{◌≡◌, drop, map}
use Rattle.std.specs.List.{list_all}
use Rattle.mg_value.specs.View.{view}
use Rattle.mg_index.specs.Fault.{is_column}
use Rattle.mg_index.proofs.fault.are_columns.Given as goal

-- the result for all is the result for what is left
abbrev pub invariant-loop-field : goal.invariant-loop-field
invariant-loop-field l = list_all is_column (map view l.fields) ≡ list_all is_column (map view (drop l.field-index l.fields))
