-- What a `Search` asks for, and what it finds in a shard.
use Rattle.std.specs.Prelude.{List, Option, option_map}
use Rattle.mg_collate.specs.Row.{RowValue}
use Rattle.mg_index.specs.Definition.{Steps}
use Rattle.mg_scan.specs.Found.{input_of_parts, found_in}
use Rattle.mg_scan.specs.Scan.{SearchInput}
use Rattle.mg_scan.specs.declared.search.Search.{Search}
use Rattle.mg_shard.specs.Shard.{ShardView}

-- the row after which the search begins, if there is one
abbrev pub after_of : Search → Option RowValue
after_of s = option_map (λ r. r.now) s.after

-- what the search asks of an index with these columns
abbrev pub search_input : Search → List Steps → SearchInput
search_input s = input_of_parts s.normal.now s.range.now (after_of s) s.take s.direction

-- what the search finds in a shard
abbrev pub found_by : Search → ShardView → List RowValue
found_by s = found_in s.target (search_input s)
