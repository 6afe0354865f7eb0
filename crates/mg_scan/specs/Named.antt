-- What a search finds in the index that a `Target` names.
use Rattle.std.specs.Prelude.{List, [], Option, Some, option_map, string_bytes}
use Rattle.std.specs.Option.{option_map_or}
use Rattle.mg_collate.specs.Row.{RowValue}
use Rattle.mg_index.specs.Catalog.{definition_at}
use Rattle.mg_index.specs.Definition.{IndexDefinition, Steps}
use Rattle.mg_scan.specs.Scan.{SearchInput, first_matches}
use Rattle.mg_scan.specs.declared.target.Target.{Target}
use Rattle.mg_scan.specs.declared.target.Target.TheVariants.{AllDocs, Index}
use Rattle.mg_shard.specs.Documents.{docs_of}
use Rattle.mg_shard.specs.Own.{id_columns}
use Rattle.mg_shard.specs.Shard.{ShardView}

-- the columns of a target in a shard with these indexes; `None` if the index is not one of them. The one column of `AllDocs` is `_id`
abbrev pub named_columns : Target → List IndexDefinition → Option (List Steps)
named_columns AllDocs definitions = Some id_columns
named_columns (Index ddoc name) definitions = option_map (λ d. d.columns) (definition_at (string_bytes ddoc) (string_bytes name) definitions)

-- what a search finds in a shard, where `input` gives what it asks of an index with given columns; nothing if the shard has no such index
abbrev pub found_named : Target → (List Steps → SearchInput) → ShardView → List RowValue
found_named target input s = option_map_or (λ columns. first_matches (input columns) (docs_of s.documents)) (named_columns target s.definitions) []
