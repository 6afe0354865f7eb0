use Rattle.std.proofs.Common.{◌≡◌, ◌++◌, drop, map, option_map}
use Rattle.mg_value.specs.View.{view}
use Rattle.mg_index.specs.Reading.{each_of}
use Rattle.mg_query.specs.Query.{sort_path}
use Rattle.mg_query.proofs.field.read_sort_paths.Given as goal

-- the paths read so far, and those of the fields that are left, are the paths of all fields
abbrev pub invariant-loop-field : goal.invariant-loop-field
invariant-loop-field l = each_of sort_path (map view l.fields) ≡ option_map (λ more. l.paths.items ++ more) (each_of sort_path (map view (drop l.field-index l.fields)))
