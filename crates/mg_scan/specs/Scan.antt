-- What a search finds in a shard. The search reads an index, whose rows are those of a JSON index of CouchDB. Of the rows whose key is in a
-- range, that come after a given row (if one is given), and whose document matches a selector, it finds the first ones, up to a limit.
use Rattle.std.specs.Prelude.{ℕ, List, Bool, true, ◌&&◌, Option, Some, take, filter}
use Rattle.std.specs.List.{filter_map}
use Rattle.std.specs.Option.{option_map_or}
use Rattle.std.specs.Ordering.{is_gt}
use Rattle.mg_value.specs.Value.{item_list}
use Rattle.mg_collate.specs.declared.direction.Direction.{Direction}
use Rattle.mg_collate.specs.Row.{RowValue, directed_order}
use Rattle.mg_collate.specs.Sorted.{sorted_rows}
use Rattle.mg_index.specs.Definition.{Steps}
use Rattle.mg_normal.specs.Normal.{NormalForm, normal_holds}
use Rattle.mg_range.specs.Range.{Range}
use Rattle.mg_range.specs.RangeSide.{has_key}
use Rattle.mg_shard.specs.Histories.{ServedDocument}
use Rattle.mg_shard.specs.Rows.{row_of}

-- what a search asks for: the index's columns, which documents, which keys, after which row if any, at most how many rows, which direction
pub record SearchInput : Type 0 where
  pub columns : List Steps
  pub normal : NormalForm
  pub range : Range
  pub after : Option RowValue
  pub count : ℕ
  pub direction : Direction

-- the row comes after another in a direction; true if there is no other
abbrev pub comes_after : Direction → Option RowValue → RowValue → Bool
comes_after direction after r = option_map_or (λ p. is_gt (directed_order direction r p)) after true

-- the row's key is in the range, and the row comes after `after`, if there is one
abbrev pub is_wanted : SearchInput → RowValue → Bool
is_wanted q r = has_key q.range (item_list r.0) && comes_after q.direction q.after r

-- the documents of which the selector holds
abbrev pub matching_documents : SearchInput → List ServedDocument → List ServedDocument
matching_documents q ds = filter (λ d. normal_holds q.normal (Some d.1)) ds

-- all rows that a search without a limit finds in a shard with these documents
abbrev pub all_matches : SearchInput → List ServedDocument → List RowValue
all_matches q ds = filter (is_wanted q) (sorted_rows q.direction (filter_map (row_of q.columns) (matching_documents q ds)))

-- the rows that the search finds in a shard with these documents: the first of all matches, up to its limit
abbrev pub first_matches : SearchInput → List ServedDocument → List RowValue
first_matches q ds = take q.count (all_matches q ds)
