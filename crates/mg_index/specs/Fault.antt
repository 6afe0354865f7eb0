-- For private clauses: the fault of a body, as it is found without reading the columns into memory.
use Rattle.std.specs.Prelude.{List, Bool, false, ◌&&◌, Option, is_some, option_and_then, ok_or}
use Rattle.std.specs.Option.{option_map_or}
use Rattle.std.specs.Result.{result_err}
use Rattle.mg_value.specs.Value.{Value}
use Rattle.mg_value.specs.Results.{◌>>=◌}
use Rattle.mg_path.specs.Part.{steps_of}
use Rattle.mg_collate.specs.declared.direction.Direction.{Direction}
use Rattle.mg_index.specs.Reading.{each_of, field_path, field_direction, is_same, one_direction}
use Rattle.mg_index.specs.declared.error.IndexError.{IndexError}
use Rattle.mg_index.specs.declared.error.IndexError.TheVariants.{Shape}

-- the field gives a path and a direction
abbrev pub is_column : Value → Bool
is_column v = is_some (option_and_then steps_of (field_path v)) && is_some (field_direction v)

-- the field gives this direction
abbrev pub is_directed : Direction → Value → Bool
is_directed d v = option_map_or (is_same d) (field_direction v) false

-- the fault of the directions of fields: `Shape` without fields or if a field gives no direction, `Mixed` if the directions differ,
-- otherwise `None`
abbrev pub fault_of_directions : List Value → Option IndexError
fault_of_directions vs = result_err (ok_or (each_of field_direction vs) Shape >>= one_direction)
