-- For private clauses: what a search has still to find in a shard.
use Rattle.std.specs.Prelude.{◌≡◌, ℕ, Bool, false, List, [], ◌∷◌, Option, Some, None, drop, option_map, if◌then◌else◌}
use Rattle.std.specs.Option.{option_and_then, option_map_or}
use Rattle.mg_collate.specs.Row.{RowValue}
use Rattle.mg_normal.specs.Normal.{NormalForm, normal_holds}
use Rattle.mg_scan.specs.Decided.{everything}
use Rattle.mg_scan.specs.Way.{all_found_by, walked_all_by}
use Rattle.mg_scan.specs.Walked.{is_late_row}
use Rattle.mg_scan.specs.declared.search.Search.{Search}
use Rattle.mg_scan.specs.declared.unread.Unread.{Unread}
use Rattle.mg_scan.specs.declared.unread.Unread.TheVariants as unread
use Rattle.mg_scan.specs.declared.source.Source.{Source}
use Rattle.mg_shard.specs.Documents.{form_of, id_bytes}
use Rattle.mg_shard.specs.Own.{id_columns}
use Rattle.mg_shard.specs.Rows.{row_key}
use Rattle.mg_shard.specs.Shard.{ShardView}
use Rattle.mg_shard.specs.declared.document.Document.{Document}

-- the document is served, and the selector holds of it
abbrev pub holds_for : NormalForm → Document → Bool
holds_for normal d = option_map_or (λ form. normal_holds normal (Some form)) (form_of d) false

-- the row of a document in the index of all documents; `None` if it is not served, or its form has no `_id`
abbrev pub row_among : Document → Option RowValue
row_among d = option_map (λ key. (key, id_bytes d)) (option_and_then (row_key id_columns) (form_of d))

-- what a search finds from a document on, given whether a row comes after the range (`late`), whether the document matches (`holds`),
-- its row, and what is found after it (`rest`); a document without a row is passed over
abbrev pub walked_on : (RowValue → Bool) → Bool → Option RowValue → List RowValue → List RowValue
walked_on late holds None rest = rest
walked_on late holds (Some r) rest = if late r then [] else if holds then r ∷ rest else rest

-- all that a search without a limit finds among documents, which begin where the search begins
abbrev pub walked_documents : Search → List Document → List RowValue
walked_documents s [] = []
walked_documents s (d ∷ ds) = walked_on (is_late_row s.direction s.range.now) (holds_for s.normal.now d) (row_among d) (walked_documents s ds)

-- the rows of what is still to be found
abbrev pub unread_rows : Search → ShardView → Unread → List RowValue
unread_rows s shard (unread.Rows rows) = walked_all_by s shard.documents rows
unread_rows s shard (unread.Documents ds) = walked_documents s ds
unread_rows s shard unread.Nothing = []

-- the search with another selector
abbrev pub with_selector : NormalForm → Search → Search
with_selector n s = record s { normal = record { ref_ptr = s.normal.ref_ptr; now = n } }

-- the search with a selector that every document matches
abbrev pub without_selector : Search → Search
without_selector = with_selector everything

-- the selector that is asked of documents; without one, that which every document matches
abbrev pub asked : Option NormalForm → NormalForm
asked None = everything
asked (Some n) = n

-- the selector that a source asks
abbrev pub asked_by : Source → NormalForm
asked_by x = asked (option_map (λ n. n.now) x.selector)

-- the rows that a source has still to give
abbrev pub rest_of : Source → List RowValue
rest_of x = unread_rows (with_selector (asked_by x) x.search) x.shard.now x.unread

-- the source gives all that the search, with this selector, finds in the shard without its limit
pub record IsSourceOf (search : Search) (n : NormalForm) (s : ShardView) (source : Source) : Type 0 where
  pub same_search : source.search ≡ search
  pub same_shard : source.shard.now ≡ s
  pub asks : asked_by source ≡ n
  pub rows : unread_rows (with_selector n search) s source.unread ≡ all_found_by (with_selector n search) s

-- the source gives all that the search would find in the shard without its selector and its limit, except the first n
pub record IsSourceAfter (n : ℕ) (search : Search) (s : ShardView) (source : Source) : Type 0 where
  pub same_search : source.search ≡ search
  pub same_shard : source.shard.now ≡ s
  pub asks : asked_by source ≡ everything
  pub rows : unread_rows (without_selector search) s source.unread ≡ drop n (all_found_by (without_selector search) s)
