-- Where the range of a search ends among rows in order: a later row tells of the rows before it.
use Rattle.std.proofs.Common.{◌≡◌, ℕ, zero, suc, ◌-◌, ◌≤◌, Bool, true, false, List, [], ◌∷◌, Option, drop, refl, sym, subst, arith}
use Rattle.std.specs.List.{AllByRecursion}
use Rattle.mg_collate.specs.Row.{RowValue}
use Rattle.mg_index.specs.Definition.{Steps}
use Rattle.mg_scan.specs.Begun.{IsBegunIn, IsUnreadAfter}
use Rattle.mg_scan.specs.RangeEnd.{AreBeforeEnd, EndsOnce, index_rows, is_late_at}
use Rattle.mg_scan.specs.Search.{search_input}
use Rattle.mg_scan.specs.Walked.{is_late_row}
use Rattle.mg_scan.specs.declared.unread.Unread.{Unread}
use Rattle.mg_scan.specs.declared.unread.Unread.TheVariants as unread
use Rattle.mg_scan.specs.declared.search.Search.{Search}
use Rattle.mg_scan.proofs.Entries.{all_forms}
use Rattle.mg_scan.proofs.Walking.{LateLast, late_rows}
use Rattle.mg_shard.specs.Shard.{ShardView}

-- ---- rows one by one

-- the rows without the first end once too
pub ends_on : (s : Search) (r : RowValue) (rows : List RowValue) → EndsOnce s (r ∷ rows) → EndsOnce s rows
ends_on s r rows h i j le e = h (suc i) (suc j) (omega (arith, le)) e

pub before_on : (s : Search) (r : RowValue) (rows : List RowValue) (n m : ℕ) → m ≡ n - 1 → AreBeforeEnd s (r ∷ rows) n → AreBeforeEnd s rows m
before_on s r rows n m e h i less = h (suc i) (omega (arith, e, less))

pub before_none : (s : Search) (rows : List RowValue) (n : ℕ) → n ≡ 0 → AreBeforeEnd s rows n
before_none s rows n e i less = absurd (omega (arith, e, less))

before_at : (s : Search) (rows : List RowValue) (i n : ℕ) (b : Bool) → EndsOnce s rows → i ≤ n → is_late_at s rows n ≡ false → is_late_at s rows i ≡ b → is_late_at s rows i ≡ false
before_at s rows i n true h le e is = absurd (let wrong = h i n le is in cc)
before_at s rows i n false h le e is = is

-- all rows before a row that does not come after the range come before its end
pub before_all : (s : Search) (rows : List RowValue) (n : ℕ) → EndsOnce s rows → is_late_at s rows n ≡ false → AreBeforeEnd s rows n
before_all s rows n h e i less = before_at s rows i n (is_late_at s rows i) h (omega (arith, less)) e refl

-- ---- rows in order

all_past : (s : Search) (rows : List RowValue) → AllByRecursion (λ r. is_late_row s.direction s.range.now r ≡ true) rows → (j : ℕ) → is_late_at s rows j ≡ true
all_past s [] h j = refl
all_past s (r ∷ rows) h zero = h.0
all_past s (r ∷ rows) h (suc j) = all_past s rows h.1 j

ends_once : (s : Search) (rows : List RowValue) → LateLast (is_late_row s.direction s.range.now) rows → EndsOnce s rows
ends_once s [] h i j le e = refl
ends_once s (r ∷ rows) h zero zero le e = e
ends_once s (r ∷ rows) h zero (suc j) le e = all_past s rows (h.0 e) j
ends_once s (r ∷ rows) h (suc i) zero le e = absurd (omega (arith, le))
ends_once s (r ∷ rows) h (suc i) (suc j) le e = ends_once s rows h.1 i j (omega (arith, le)) e

ends_after : (s : Search) (n : ℕ) (rows : List RowValue) → EndsOnce s rows → EndsOnce s (drop n rows)
ends_after s zero rows h = h
ends_after s (suc n) [] h = h
ends_after s (suc n) (r ∷ rows) h = ends_after s n rows (ends_on s r rows h)

-- ---- rows that are left of an index

-- the rows from where a search begins end once
pub begun_ends : (at : Option (List Steps)) (s : Search) (shard : ShardView) (l : Unread) → IsBegunIn at s shard l → EndsOnce s (index_rows l)
begun_ends at s shard (unread.Rows rows) b = ends_once s rows (late_rows (search_input s b.0) shard.documents rows (all_forms shard.documents) b.2)
begun_ends at s shard (unread.Documents documents) b = λ i j le e. refl
begun_ends at s shard unread.Nothing b = λ i j le e. refl

-- and so do those after the first n
pub left_ends_after : (s : Search) (n : ℕ) (l m : Unread) → IsUnreadAfter n l m → EndsOnce s (index_rows l) → EndsOnce s (index_rows m)
left_ends_after s n (unread.Rows rows) m e h = subst (λ (x : Unread). EndsOnce s (index_rows x)) (sym e) (ends_after s n rows h)
left_ends_after s n (unread.Documents documents) m e h = subst (λ (x : Unread). EndsOnce s (index_rows x)) (sym e.1) h
left_ends_after s n unread.Nothing m e h = subst (λ (x : Unread). EndsOnce s (index_rows x)) (sym e) h
