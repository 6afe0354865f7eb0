-- For private clauses: rows that are known to come before the end of a search's range.
use Rattle.std.specs.Prelude.{◌≡◌, ℕ, ◌<◌, ◌≤◌, Bool, true, false, List, [], slice_get}
use Rattle.std.specs.Option.{option_map_or}
use Rattle.mg_collate.specs.Row.{RowValue}
use Rattle.mg_scan.specs.Walked.{is_late_row}
use Rattle.mg_scan.specs.declared.unread.Unread.{Unread}
use Rattle.mg_scan.specs.declared.unread.Unread.TheVariants as unread
use Rattle.mg_scan.specs.declared.search.Search.{Search}

-- the row at a place comes after the range; true also if there is no row at that place
abbrev pub is_late_at : Search → List RowValue → ℕ → Bool
is_late_at s rows place = option_map_or (is_late_row s.direction s.range.now) (slice_get rows place) true

-- if a row comes after the range, so does each later row
abbrev pub EndsOnce : Search → List RowValue → Type 0
EndsOnce s rows = (i j : ℕ) → i ≤ j → is_late_at s rows i ≡ true → is_late_at s rows j ≡ true

-- there are at least n rows, and none of the first n comes after the range
abbrev pub AreBeforeEnd : Search → List RowValue → ℕ → Type 0
AreBeforeEnd s rows n = (i : ℕ) → i < n → is_late_at s rows i ≡ false

-- the rows of an index that are still to be read; none if the target is all documents, or an index that the shard does not have
abbrev pub index_rows : Unread → List RowValue
index_rows (unread.Rows rows) = rows
index_rows (unread.Documents documents) = []
index_rows unread.Nothing = []
