use Rattle.std.proofs.Common.{◌≡◌, ◌++◌, drop, map, option_map}
use Rattle.mg_value.specs.View.{view}
use Rattle.mg_index.specs.Reading.{each_of}
use Rattle.mg_query.specs.Query.{path_of}
use Rattle.mg_query.proofs.field.read_paths.Given as goal

-- the paths read so far, and those of the texts that are left, are the paths of all texts
abbrev pub invariant-loop-text : goal.invariant-loop-text
invariant-loop-text l = each_of path_of (map view l.texts) ≡ option_map (λ more. l.paths.items ++ more) (each_of path_of (map view (drop l.text-index l.texts)))
