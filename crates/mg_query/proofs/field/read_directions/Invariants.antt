use Rattle.std.proofs.Common.{◌≡◌, ◌++◌, drop, map, option_map}
use Rattle.mg_value.specs.View.{view}
use Rattle.mg_index.specs.Reading.{each_of, field_direction}
use Rattle.mg_query.proofs.field.read_directions.Given as goal

-- the directions read so far, and those of the fields that are left, are the directions of all fields
abbrev pub invariant-loop-field : goal.invariant-loop-field
invariant-loop-field l = each_of field_direction (map view l.fields) ≡ option_map (λ more. l.directions.items ++ more) (each_of field_direction (map view (drop l.field-index l.fields)))
