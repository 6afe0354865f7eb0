-- Whether two definitions are equal: in design document, name, path texts, columns and direction.
use Rattle.std.specs.Prelude.{Bool, false, ◌&&◌, List}
use Rattle.std.specs.Option.{option_map_or}
use Rattle.std.specs.Cmp.Lexicographic.{pointwise}
use Rattle.mg_path.specs.Equal.{path_eq}
use Rattle.mg_index.specs.Catalog.{definition_at, is_named}
use Rattle.mg_index.specs.Definition.{IndexDefinition}
use Rattle.mg_index.specs.Reading.{is_same}

-- whether two definitions are equal
abbrev pub is_same_definition : IndexDefinition → IndexDefinition → Bool
is_same_definition a b = is_named b.ddoc b.name a && (is_same a.direction b.direction && (path_eq a.texts b.texts && pointwise path_eq a.columns b.columns))

-- whether a definition equal to d is in this catalog
abbrev pub is_there : IndexDefinition → List IndexDefinition → Bool
is_there d ds = option_map_or (is_same_definition d) (definition_at d.ddoc d.name ds) false
