-- The rows of one shard after the first n: what a search finds there, and the merge of this one list.
use Rattle.std.proofs.Common.{◌≡◌, ℕ, zero, suc, ◌+◌, ◌-◌, ◌≤◌, Bool, true, false, List, [], ◌∷◌, Option, All, append-nil, drop, get_or, if◌then◌else◌, length, map, take, refl, ap, ap₂, sym, ◌∙◌, subst, arith}
use Rattle.std.proofs.Math.Seq.{take-nil}
use Rattle.std.proofs.lemmas.List.{drop-drop}
use Rattle.std.proofs.lemmas.List.Elements.{All-from_recursion}
use Rattle.std.specs.Arc.{arc_value}
use Rattle.std.specs.List.{AllByRecursion}
use Rattle.std.specs.declared.alloc.Global.{Global}
use Rattle.std.specs.declared.cmp.Ordering.{Ordering}
use Rattle.std.specs.declared.sync.Arc.{Arc}
use Rattle.mg_collate.proofs.Directed.{directed_total}
use Rattle.mg_collate.proofs.Sorting.{Rises, in_order, rises, sorted_least}
use Rattle.mg_collate.specs.Row.{RowValue, directed_order}
use Rattle.mg_collate.specs.Sorted.{IsInOrder, sorted}
use Rattle.mg_collate.specs.declared.direction.Direction.{Direction}
use Rattle.mg_index.specs.Definition.{Steps}
use Rattle.mg_merge.specs.Merged.{merged}
use Rattle.mg_normal.specs.Normal.{NormalForm}
use Rattle.mg_merge.specs.Pulled.{IsGivenBy}
use Rattle.mg_scan.specs.Begun.{IsBegunIn, IsUnreadAfter}
use Rattle.mg_scan.specs.Decided.{IsDecidedIn}
use Rattle.mg_scan.specs.Hit.{AreHitsIn, IsHitOf}
use Rattle.mg_scan.specs.Kept.{IsKept}
use Rattle.mg_scan.specs.Sourced.{IsSourceAfter, rest_of, unread_rows, with_selector, without_selector}
use Rattle.mg_scan.specs.Search.{search_input, found_by}
use Rattle.mg_scan.specs.Way.{all_found_by}
use Rattle.mg_scan.specs.Walked.{is_late_row, walked_all}
use Rattle.mg_scan.specs.declared.hit.Hit.{Hit}
use Rattle.mg_scan.specs.declared.source.Source.{Source}
use Rattle.mg_scan.specs.declared.unread.Unread.{Unread}
use Rattle.mg_scan.specs.declared.unread.Unread.TheVariants as unread
use Rattle.mg_scan.specs.declared.search.Search.{Search}
use Rattle.mg_scan.proofs.Begun.{on_way, served_begun}
use Rattle.mg_scan.proofs.Decided.{all_alike}
use Rattle.mg_scan.proofs.Entries.{all_forms}
use Rattle.mg_scan.proofs.Sources.{found_in_order, found_merged, hits_given}
use Rattle.mg_scan.proofs.Walking.{LateLast, late_rows}
use Rattle.mg_shard.specs.Shard.{ShardView, shards_view}

-- ---- lists without their first items

all_dropped : {X : Type 0} (P : X → Type 0) (n : ℕ) (xs : List X) → AllByRecursion P xs → AllByRecursion P (drop n xs)
all_dropped P zero xs h = h
all_dropped P (suc n) [] h = h
all_dropped P (suc n) (x ∷ xs) h = all_dropped P n xs h.1

rises_dropped : {X : Type 0} (order : X → X → Ordering) (n : ℕ) (xs : List X) → Rises order xs → Rises order (drop n xs)
rises_dropped order zero xs h = h
rises_dropped order (suc n) [] h = h
rises_dropped order (suc n) (x ∷ xs) h = rises_dropped order n xs h.1

pub drop_taken : {X : Type 0} (n m : ℕ) (xs : List X) → drop n (take m xs) ≡ take (m - n) (drop n xs)
drop_taken zero m xs = let e : m ≡ m - 0 = omega arith in ap (λ k. take k xs) e
drop_taken (suc n) zero xs = let e : 0 ≡ 0 - suc n = omega arith in ap (λ k. take k (drop (suc n) xs)) e
drop_taken (suc n) (suc m) [] = sym (take-nil (suc m - suc n))
drop_taken (suc n) (suc m) (x ∷ xs) = let e : m - n ≡ suc m - suc n = omega arith in drop_taken n m xs ∙ ap (λ k. take k (drop n xs)) e

sorted_risen : {X : Type 0} (order : X → X → Ordering) (xs : List X) → Rises order xs → sorted order xs ≡ xs
sorted_risen order [] h = refl
sorted_risen order (x ∷ xs) h = sorted_least order x xs h.0 ∙ ap (λ ys. x ∷ ys) (sorted_risen order xs h.1)

-- the merge of one list
merged_one : (direction : Direction) (count : ℕ) (xs : List RowValue) → Rises (directed_order direction) xs → merged direction count (xs ∷ []) ≡ take count xs
merged_one direction count xs h = ap (λ ys. take count (sorted (directed_order direction) ys)) (append-nil xs) ∙ ap (take count) (sorted_risen (directed_order direction) xs h)

-- ---- what is left of a search after the first rows

none_on_way : (late : RowValue → Bool) (n : ℕ) (rows : List RowValue) → AllByRecursion (λ r. late r ≡ true) rows → walked_all late (λ r. true) (drop n rows) ≡ []
none_on_way late zero [] h = refl
none_on_way late zero (r ∷ rows) h = ap (λ b. if b then [] else r ∷ walked_all late (λ x. true) rows) h.0
none_on_way late (suc n) [] h = refl
none_on_way late (suc n) (r ∷ rows) h = none_on_way late n rows h.1

after_step : (late : RowValue → Bool) (n : ℕ) (r : RowValue) (rows : List RowValue) (b : Bool) → late r ≡ b → (late r ≡ true → AllByRecursion (λ x. late x ≡ true) rows)
    → walked_all late (λ x. true) (drop n rows) ≡ drop n (walked_all late (λ x. true) rows)
    → walked_all late (λ x. true) (drop n rows) ≡ drop (suc n) (if b then [] else r ∷ walked_all late (λ x. true) rows)
after_step late n r rows true e last more = none_on_way late n rows (last e)
after_step late n r rows false e last more = more

on_way_after : (late : RowValue → Bool) (n : ℕ) (rows : List RowValue) → LateLast late rows → walked_all late (λ x. true) (drop n rows) ≡ drop n (walked_all late (λ x. true) rows)
on_way_after late zero rows h = refl
on_way_after late (suc n) [] h = refl
on_way_after late (suc n) (r ∷ rows) h = after_step late n r rows (late r) refl h.0 (on_way_after late n rows h.1)

nothing_after : (n : ℕ) → ◌≡◌ {A = List RowValue} [] (drop n [])
nothing_after zero = refl
nothing_after (suc n) = refl

-- what a search without a selector finds after the first n rows that it reads is what it finds, without the first n
pub rows_left_after : (at : Option (List Steps)) (s : Search) (shard : ShardView) (n : ℕ) (l m : Unread) → IsBegunIn at s shard l → IsUnreadAfter n l m → unread_rows (without_selector s) shard m ≡ drop n (unread_rows (without_selector s) shard l)
rows_left_after at s shard n (unread.Rows rows) m b e =
    let ds = shard.documents in
    let served = served_begun s ds b.0 rows b.2 in
    ap (unread_rows (without_selector s) shard) e
    ∙ sym (on_way s ds (drop n rows) (all_dropped _ n rows served))
    ∙ on_way_after (is_late_row s.direction s.range.now) n rows (late_rows (search_input s b.0) ds rows (all_forms ds) b.2)
    ∙ ap (drop n) (on_way s ds rows served)
rows_left_after at s shard n (unread.Documents documents) m b e =
    ap (unread_rows (without_selector s) shard) e.1 ∙ sym (ap (λ k. drop k (unread_rows (without_selector s) shard (unread.Documents documents))) e.0)
rows_left_after at s shard n unread.Nothing m b e = ap (unread_rows (without_selector s) shard) e ∙ nothing_after n

pub kept_after : (shard : ShardView) (n : ℕ) (l m : Unread) → IsUnreadAfter n l m → IsKept shard l → IsKept shard m
kept_after shard n (unread.Rows rows) m e h = subst (IsKept shard) (sym e) (all_dropped _ n rows h)
kept_after shard n (unread.Documents documents) m e h = subst (IsKept shard) (sym e.1) h
kept_after shard n unread.Nothing m e h = subst (IsKept shard) (sym e) h

-- ---- one shard

pub one_seen : (shards : List (Arc ShardView Global)) (a : Arc ShardView Global) (shard : ShardView) → length shards ≡ 1 → a ≡ get_or shards 0 a → shard ≡ arc_value a → shards_view shards ≡ shard ∷ []
one_seen [] a shard one is e = absurd (omega (arith, one))
one_seen (x ∷ []) a shard one is e = ap (λ y. arc_value y ∷ []) (sym is) ∙ ap (λ y. y ∷ []) (sym e)
one_seen (x ∷ y ∷ shards) a shard one is e = absurd (omega (arith, one))

module _ (s : Search) (n : ℕ) (shard : ShardView) (source : Source) (is : IsSourceAfter n s shard source) where
  rest_is : rest_of source ≡ drop n (all_found_by (without_selector s) shard)
  rest_is =
      ap₂ (λ (m : NormalForm) (y : Search). unread_rows (with_selector m y) source.shard.now source.unread) is.asks is.same_search ∙ ap (λ (t : ShardView). unread_rows (without_selector s) t source.unread) is.same_shard ∙ is.rows

  abbrev all : List RowValue
  all = all_found_by (without_selector s) shard

  all_rises : Rises (directed_order s.direction) all
  all_rises = rises (directed_order s.direction) (directed_total s.direction) all (found_in_order (without_selector s) shard)

  rest_rises : Rises (directed_order s.direction) (rest_of source)
  rest_rises = subst (Rises (directed_order s.direction)) (sym rest_is) (rises_dropped (directed_order s.direction) n all all_rises)

  pub one_in_order : All (IsInOrder s.direction) (map rest_of (source ∷ []))
  one_in_order =
      All-from_recursion (IsInOrder s.direction) (rest_of source ∷ []) (in_order (directed_order s.direction) (directed_total s.direction) (rest_of source) rest_rises, tt)

  -- the merge of the rows after the first n is the merge of all rows, without the first n
  pub one_merged : (skip wanted : ℕ) → n ≤ skip → wanted ≡ s.take - n → All (IsDecidedIn s.target s.normal.now s.range.now) (shard ∷ [])
      → drop (skip - n) (merged s.direction wanted (map rest_of (source ∷ []))) ≡ drop skip (merged s.direction s.take (map (found_by s) (shard ∷ [])))
  one_merged skip wanted within w decided =
      let more = skip - n in
      let sum : n + more ≡ skip = omega (arith, within) in
      let here : merged s.direction wanted (map rest_of (source ∷ [])) ≡ drop n (take s.take all) =
      merged_one s.direction wanted (rest_of source) rest_rises ∙ ap (take wanted) rest_is ∙ ap (λ k. take k (drop n all)) w ∙ sym (drop_taken n s.take all) in
      let there : merged s.direction s.take (map (found_by s) (shard ∷ [])) ≡ take s.take all =
      ap (merged s.direction s.take) (sym (all_alike s (shard ∷ []) decided))
      ∙ sym (found_merged (without_selector s) (shard ∷ [])) ∙ merged_one s.direction s.take all all_rises in
      ap (drop more) here ∙ drop-drop more n (take s.take all) ∙ ap (λ k. drop k (take s.take all)) sum ∙ ap (drop skip) (sym there)

  pub one_given : (hits : List Hit) → All (IsGivenBy (λ x. IsHitOf x.shard.now) (source ∷ [])) hits → AreHitsIn (shard ∷ []) hits
  one_given hits given = hits_given (IsSourceAfter n s) (λ t x here. here.same_shard) (shard ∷ []) (source ∷ []) (is, tt) hits given
