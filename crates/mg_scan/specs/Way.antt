-- For private clauses: where a search begins, and what it finds on its way through a shard.
use Rattle.std.specs.Prelude.{ℕ, List, option_map}
use Rattle.std.specs.Option.{option_and_then}
use Rattle.std.specs.List.{filter_map}
use Rattle.std.specs.declared.cmp.Ordering.{Ordering}
use Rattle.mg_collate.specs.Row.{RowValue, row_value_order}
use Rattle.mg_range.specs.RangeSide.{side_of}
use Rattle.mg_scan.specs.Found.{all_found_in}
use Rattle.mg_scan.specs.Search.{after_of, search_input}
use Rattle.mg_scan.specs.Walked.{begin_order, holds_at, is_late_row, walked_all}
use Rattle.mg_scan.specs.declared.search.Search.{Search}
use Rattle.mg_shard.specs.Documents.{KeptDocument, KeptDocuments, doc_entry}
use Rattle.mg_shard.specs.Own.{id_columns}
use Rattle.mg_shard.specs.Rows.{row_of}
use Rattle.mg_shard.specs.Shard.{ShardView}
use Rattle.mg_value.specs.Value.{item_list}

-- all that a search finds in a shard, without its limit
abbrev pub all_found_by : Search → ShardView → List RowValue
all_found_by s = all_found_in s.target (search_input s)

-- compares the place where a search begins to a row
abbrev pub begin_at : Search → RowValue → Ordering
begin_at s r = begin_order s.direction (side_of s.range.now (item_list r.0)) (option_map (row_value_order r) (after_of s))

-- all rows that a search without a limit finds among these rows of a shard with these documents; the rows begin where the search begins
abbrev pub walked_all_by : Search → KeptDocuments → List RowValue → List RowValue
walked_all_by s ds = walked_all (is_late_row s.direction s.range.now) (λ r. holds_at s.normal.now ds r.1)

-- the rows that documents have in the index of all documents, where an id is the key
abbrev pub entry_rows : List (List ℕ × KeptDocument) → List RowValue
entry_rows es = filter_map (λ e. option_and_then (row_of id_columns) (doc_entry e)) es
