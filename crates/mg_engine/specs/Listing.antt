-- The rows of `_all_docs` in a range of ids, after the CouchDB 3.x API reference: a query finds the documents, and each row shows one of them.
use Rattle.std.specs.Prelude.{ℕ, pos, List, [], ◌+◌, ◌&&◌, Bool, true, false, codes, filter, length, min, Option, Some, None, if◌then◌else◌}
use Rattle.std.specs.Cmp.Lexicographic.{slice_cmp}
use Rattle.std.specs.Ordering.{is_gt, is_lt, nat_cmp}
use Rattle.mg_value.specs.Value.{Value, flag, whole, text, list, object, item, no_items, member, no_members, with_member}
use Rattle.mg_collate.specs.Direction.{direction_name}
use Rattle.mg_collate.specs.declared.direction.Direction.{Direction}
use Rattle.mg_collate.specs.declared.direction.Direction.TheVariants.{Asc, Desc}
use Rattle.mg_shard.specs.Histories.{Histories, served_documents}

-- which rows are asked for, in the order of their ids or in its reverse: those of the ids from `start` on, or from the first; up to `last`, which
-- may be left out itself, or to the last; how many are skipped, and how many are shown at most; and whether they have the documents, and these
-- their conflicts
pub record Listing : Type 0 where
  pub start : Option (List ℕ)
  pub last : Option (List ℕ)
  pub with_last : Bool
  pub descending : Bool
  pub limit : ℕ
  pub skip : ℕ
  pub documents : Bool
  pub conflicts : Bool

-- the direction of a range
abbrev pub direction_of : Listing → Direction
direction_of l = if l.descending then Desc else Asc

-- ---- the query

-- the condition that an id comes up to this one, which may be left out itself; no condition, if there is none
abbrev pub up_to_id : Option (List ℕ) → Bool → Value
up_to_id None with_it = object no_members
up_to_id (Some id) true = object (member (codes "$lte") (text id) no_members)
up_to_id (Some id) false = object (member (codes "$lt") (text id) no_members)

-- and that it begins with this one, which may be left out itself; with the first, if there is none
abbrev pub from_id : Option (List ℕ) → Bool → Value → Value
from_id None with_it condition = with_member (codes "$gte") (text []) condition
from_id (Some id) true condition = with_member (codes "$gte") (text id) condition
from_id (Some id) false condition = with_member (codes "$gt") (text id) condition

-- the ids of a range, as the condition of a selector
abbrev pub ids_in : Direction → Listing → Value
ids_in Asc l = from_id l.start true (up_to_id l.last l.with_last)
ids_in Desc l = from_id l.last l.with_last (up_to_id l.start true)

-- the selector of a range
abbrev pub selector_of : Listing → Value
selector_of l = object (member (codes "_id") (ids_in (direction_of l) l) no_members)

-- the sort by ids in a direction
abbrev pub sort_by : Direction → Value
sort_by direction = list (item (object (member (codes "_id") (text (direction_name direction)) no_members)) no_items)

-- the query that finds the documents of a range
abbrev pub range_query : Listing → Value
range_query l = object (
    member (codes "conflicts") (flag (l.documents && l.conflicts)) (
    member (codes "limit") (whole (pos l.limit)) (
    member (codes "selector") (selector_of l) (
    member (codes "skip") (whole (pos l.skip)) (
    member (codes "sort") (sort_by (direction_of l)) no_members)))))

-- ---- `offset`

-- the other direction
abbrev pub opposite : Direction → Direction
opposite Asc = Desc
opposite Desc = Asc

-- an id comes before the start of a range in its direction
abbrev pub comes_before : Direction → List ℕ → List ℕ → Bool
comes_before Asc start id = is_gt (slice_cmp nat_cmp start id)
comes_before Desc start id = is_lt (slice_cmp nat_cmp start id)

-- how many documents that are not deleted come before the start of a range
abbrev pub count_before : Direction → Option (List ℕ) → Histories → ℕ
count_before direction None hs = 0
count_before direction (Some start) hs = length (filter (λ d. comes_before direction start d.0) (served_documents hs))

-- how many come before the first row that is shown, as far as there are so many
abbrev pub offset_of : Histories → Listing → ℕ
offset_of hs l = min (length (served_documents hs)) (count_before (direction_of l) l.start hs + l.skip)
