-- For private clauses: a search that begins after some of the rows that the page skips, and has the same page.
use Rattle.std.specs.Prelude.{◌≡◌, ℕ, ◌≤◌, List, Some, true, false, All, drop, map}
use Rattle.std.specs.Borrow.{Bor}
use Rattle.std.specs.List.{sum_by}
use Rattle.mg_collate.specs.Row.{RowValue}
use Rattle.mg_merge.specs.Merged.{merged}
use Rattle.mg_scan.specs.Begins.{reached}
use Rattle.mg_scan.specs.Decided.{IsDecidedIn}
use Rattle.mg_scan.specs.Search.{after_of, found_by}
use Rattle.mg_scan.specs.Upcoming.{count_upcoming}
use Rattle.mg_scan.specs.Walked.{is_late_row}
use Rattle.mg_scan.specs.declared.search.Search.{Search}
use Rattle.mg_scan.specs.declared.target_ref.TargetRef.{TargetRef}
use Rattle.mg_scan.specs.declared.target_ref.TargetRef.TheVariants.{AllDocs, Index}
use Rattle.mg_shard.specs.Shard.{ShardView}

-- the target is an index
abbrev pub IsIndex : TargetRef → Type 0
IsIndex AllDocs = ⊥
IsIndex (Index x) = Unit {0}

-- how many rows of a shard (for `AllDocs`, documents, deleted ones too) come after where a search begins; 0 if the shard lacks the index
abbrev pub count_upcoming_by : Search → ShardView → ℕ
count_upcoming_by s = count_upcoming s.target s.range.now (after_of s) s.direction

-- how many rows or documents of all shards come after the place where a search begins
abbrev pub count_all_upcoming : List ShardView → Search → ℕ
count_all_upcoming shards s = sum_by (count_upcoming_by s) shards

-- each shard has the search's target, and the search's range decides its whole selector there
abbrev pub AreDecided : List ShardView → Search → Type 0
AreDecided shards s = All (IsDecidedIn s.target s.normal.now s.range.now) shards

-- of the rows that a search finds in all shards together, the first `take` without the first `skip`
abbrev pub page_after : List ShardView → Search → ℕ → List RowValue
page_after shards s skip = drop skip (merged s.direction s.take (map (found_by s) shards))

-- the search that begins after a row, and takes n rows
abbrev pub beyond_row : Search → Bor RowValue → ℕ → Search
beyond_row s row n = record s { after = Some row; take = n }

-- the row is at or after the place where the search begins, and does not come after the range
pub record IsWithin (s : Search) (r : RowValue) : Type 0 where
  pub begun : reached s.direction s.range.now (after_of s) r ≡ true
  pub timely : is_late_row s.direction s.range.now r ≡ false

-- the search t is s, but may begin after another row and take fewer rows; if the range decides what they find, the page of t after `left`
-- rows is the page of s after `skip` rows
pub record HasPageOf (shards : List ShardView) (s : Search) (skip : ℕ) (t : Search) (left : ℕ) : Type 0 where
  pub same : t ≡ record s { after = t.after; take = t.take }
  pub take : t.take ≤ s.take
  pub page : AreDecided shards s → page_after shards t left ≡ page_after shards s skip
