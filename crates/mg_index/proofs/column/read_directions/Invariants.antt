use Rattle.std.proofs.Common.{◌≡◌, ◌++◌, drop, map, option_map}
use Rattle.mg_value.specs.View.{view}
use Rattle.mg_index.specs.Reading.{field_direction}
use Rattle.mg_index.specs.Reading.{each_of}
use Rattle.mg_index.proofs.column.read_directions.Given as goal

-- the result for all is the result for what is left
abbrev pub invariant-loop-field : goal.invariant-loop-field
invariant-loop-field l = each_of field_direction (map view l.fields) ≡ option_map (λ more. l.directions.items ++ more) (each_of field_direction (map view (drop l.field-index l.fields)))
