-- What a search reads in a shard, and what it finds there.
use Rattle.std.specs.Prelude.{ℕ, List, [], Option, Some, option_map}
use Rattle.std.specs.Option.{option_map_or}
use Rattle.mg_collate.specs.Row.{RowValue}
use Rattle.mg_collate.specs.declared.direction.Direction.{Direction}
use Rattle.mg_index.specs.Catalog.{definition_at}
use Rattle.mg_index.specs.Definition.{IndexDefinition, Steps}
use Rattle.mg_normal.specs.Normal.{NormalForm}
use Rattle.mg_range.specs.Range.{Range}
use Rattle.mg_scan.specs.Scan.{SearchInput, all_matches, first_matches}
use Rattle.mg_scan.specs.declared.target_ref.TargetRef.{TargetRef}
use Rattle.mg_scan.specs.declared.target_ref.TargetRef.TheVariants.{AllDocs, Index}
use Rattle.mg_shard.specs.Documents.{docs_of}
use Rattle.mg_shard.specs.Own.{id_columns}
use Rattle.mg_shard.specs.Shard.{ShardView}

-- the columns of a target in a shard with these indexes; `None` if the index is not one of them. The one column of `AllDocs` is `_id`
abbrev pub target_columns : TargetRef → List IndexDefinition → Option (List Steps)
target_columns AllDocs definitions = Some id_columns
target_columns (Index x) definitions = option_map (λ d. d.columns) (definition_at x.ddoc.now x.name.now definitions)

-- what a search asks for, made from its parts; the columns come last, since they depend on the shard
abbrev pub input_of_parts : NormalForm → Range → Option RowValue → ℕ → Direction → List Steps → SearchInput
input_of_parts normal range after count direction columns =
    record { columns = columns; normal = normal; range = range; after = after; count = count; direction = direction }

-- what a search finds in a shard, where `input` gives what it asks of an index with given columns; nothing if the shard has no such index
abbrev pub found_in : TargetRef → (List Steps → SearchInput) → ShardView → List RowValue
found_in target input s = option_map_or (λ columns. first_matches (input columns) (docs_of s.documents)) (target_columns target s.definitions) []

-- what the search of `found_in` would find in a shard without its limit; nothing if the shard has no such index
abbrev pub all_found_in : TargetRef → (List Steps → SearchInput) → ShardView → List RowValue
all_found_in target input s = option_map_or (λ columns. all_matches (input columns) (docs_of s.documents)) (target_columns target s.definitions) []
