-- Rows that a page skips, passed over up to one of them. A search that begins after that row finds the same rows without the first n,
-- where n is by how many the rows after the place where the search begins become fewer.
use Rattle.std.proofs.Common.{◌≡◌, ℕ, suc, ◌+◌, ◌-◌, ◌≤◌, Bool, true, false, ◌&&◌, not, cond, List, [], ◌∷◌, ◌++◌, Option, Some, None, Ordering, Less, Equal, Greater, is_gt, drop, length, map, option_map, take, refl, ap, ap₂, sym, ◌∙◌, subst, arith}
use Rattle.std.proofs.lemmas.List.{drop-drop, length-append}
use Rattle.std.proofs.lemmas.List.Elements.{filter-append}
use Rattle.std.proofs.lemmas.List.Sorted.{length_permutation}
use Rattle.std.proofs.lemmas.List.Sums.{sum_by-cons}
use Rattle.std.specs.Borrow.{Bor}
use Rattle.std.specs.List.{AllByRecursion, filter, filter_map, sum_by}
use Rattle.std.specs.Option.{option_map_or}
use Rattle.std.specs.Ordering.{ordering_reverse}
use Rattle.mg_collate.proofs.Directed.{directed_total}
use Rattle.mg_collate.proofs.Sorting.{NoneBelow, Rises, permutation_sorted, rises_sorted}
use Rattle.mg_collate.specs.Row.{RowValue, directed_order, row_value_order}
use Rattle.mg_collate.specs.Sorted.{sorted, sorted_rows}
use Rattle.mg_collate.specs.declared.direction.Direction.{Direction}
use Rattle.mg_collate.specs.declared.direction.Direction.TheVariants.{Asc, Desc}
use Rattle.mg_index.specs.Catalog.{definition_at}
use Rattle.mg_index.specs.Definition.{IndexDefinition, Steps}
use Rattle.mg_merge.specs.Merged.{joined, merged}
use Rattle.mg_range.specs.RangeSide.{is_early, is_late, is_side_within}
use Rattle.mg_range.specs.Range.{Range}
use Rattle.mg_range.specs.declared.side.RangeSide.{RangeSide}
use Rattle.mg_range.specs.declared.side.RangeSide.TheVariants.{Before, Within, Past}
use Rattle.mg_scan.specs.Begins.{beyond_rises, row_side, reached}
use Rattle.mg_scan.specs.Decided.{everything}
use Rattle.mg_scan.specs.Found.{all_found_in, input_of_parts, target_columns}
use Rattle.mg_scan.specs.Sourced.{without_selector}
use Rattle.mg_scan.specs.Passed.{AreDecided, HasPageOf, IsIndex, IsWithin, beyond_row, count_all_upcoming}
use Rattle.mg_scan.specs.Scan.{all_matches, matching_documents, comes_after, is_wanted}
use Rattle.mg_scan.specs.Search.{after_of, found_by}
use Rattle.mg_scan.specs.Upcoming.{begin_of_parts, count_upcoming}
use Rattle.mg_scan.specs.Way.{all_found_by}
use Rattle.mg_scan.specs.Walked.{is_beyond, is_late_row}
use Rattle.mg_scan.specs.declared.search.Search.{Search}
use Rattle.mg_scan.specs.declared.target_ref.TargetRef.{TargetRef}
use Rattle.mg_scan.specs.declared.target_ref.TargetRef.TheVariants.{AllDocs, Index}
use Rattle.mg_scan.proofs.AfterFirst.{drop_taken}
use Rattle.mg_scan.proofs.Decided.{all_alike, all_asked}
use Rattle.mg_scan.proofs.Late.{late_rises}
use Rattle.mg_scan.proofs.Sources.{found_merged}
use Rattle.mg_scan.proofs.Walking.{LateLast, begun, beyond_is, filter-both, filter-same, sorted-directed, sorted_rows-where}
use Rattle.mg_shard.specs.Documents.{docs_of}
use Rattle.mg_shard.specs.Histories.{ServedDocument}
use Rattle.mg_shard.specs.Rows.{row_of, rows_of}
use Rattle.mg_shard.specs.Shard.{ShardView}
use Rattle.mg_pages.specs.Reading.{beyond}

-- ---- lists

fewer : {X : Type 0} (p : X → Bool) (xs : List X) → length (filter p xs) ≤ length xs
fewer p [] = omega arith
fewer {X} p (x ∷ xs) = step (p x) (fewer p xs)
  where
    step : (b : Bool) → length (filter p xs) ≤ length xs → length (cond b (x ∷ filter p xs) (filter p xs)) ≤ length (x ∷ xs)
    step true h = omega (arith, h)
    step false h = omega (arith, h)

all_pass : {X : Type 0} (p : X → Bool) (xs : List X) → AllByRecursion (λ x. p x ≡ true) xs → filter p xs ≡ xs
all_pass p [] h = refl
all_pass p (x ∷ xs) h = ap₂ (λ b ys. cond b (x ∷ ys) (filter p xs)) h.0 (all_pass p xs h.1)

-- if all rows after a row that passes a test pass it too, the rows that pass are the last ones
last_step : (p : RowValue → Bool) (x : RowValue) (xs : List RowValue) (b : Bool) → p x ≡ b → (p x ≡ true → AllByRecursion (λ y. p y ≡ true) xs) → filter p xs ≡ drop (length xs - length (filter p xs)) xs
    → cond b (x ∷ filter p xs) (filter p xs) ≡ drop (length (x ∷ xs) - length (cond b (x ∷ filter p xs) (filter p xs))) (x ∷ xs)
last_step p x xs true e last h =
    let all = all_pass p xs (last e) in
    let none : 0 ≡ length (x ∷ xs) - length (x ∷ filter p xs) = omega (arith, ap length all) in
    ap (λ ys. x ∷ ys) all ∙ ap (λ n. drop n (x ∷ xs)) none
last_step p x xs false e last h =
    let few = fewer p xs in
    let next : suc (length xs - length (filter p xs)) ≡ length (x ∷ xs) - length (filter p xs) = omega (arith, few) in
    h ∙ ap (λ n. drop n (x ∷ xs)) next

last_ones : (p : RowValue → Bool) (xs : List RowValue) → LateLast p xs → filter p xs ≡ drop (length xs - length (filter p xs)) xs
last_ones p [] h = refl
last_ones p (x ∷ xs) h = last_step p x xs (p x) refl h.0 (last_ones p xs h.1)

-- what a row adds to a count
abbrev one : Bool → ℕ
one true = 1
one false = 0

count_step : (r s v w : Bool) (x : RowValue) (rs ss vs ws : List RowValue) → one r + one v ≡ one s + one w → length rs + length vs ≡ length ss + length ws
    → length (cond r (x ∷ rs) rs) + length (cond v (x ∷ vs) vs) ≡ length (cond s (x ∷ ss) ss) + length (cond w (x ∷ ws) ws)
count_step r s v w x rs ss vs ws here h =
    let a = more r rs in let b = more s ss in let c = more v vs in let d = more w ws in omega (arith, here, h, a, b, c, d)
  where
    more : (b : Bool) (ys : List RowValue) → length (cond b (x ∷ ys) ys) ≡ one b + length ys
    more true ys = let e : length (x ∷ ys) ≡ 1 + length ys = omega arith in e
    more false ys = let e : length ys ≡ 0 + length ys = omega arith in e

-- if r and v together pass each row as often as s and w do, they pass as many rows in all
counts_alike : (r s v w : RowValue → Bool) → ((x : RowValue) → one (r x) + one (v x) ≡ one (s x) + one (w x)) → (xs : List RowValue)
    → length (filter r xs) + length (filter v xs) ≡ length (filter s xs) + length (filter w xs)
counts_alike r s v w here [] = refl
counts_alike r s v w here (x ∷ xs) = count_step (r x) (s x) (v x) (w x) x (filter r xs) (filter s xs) (filter v xs) (filter w xs) (here x) (counts_alike r s v w here xs)

-- ---- all shards joined

joined_where : (p : RowValue → Bool) (f g : ShardView → List RowValue) → ((shard : ShardView) → g shard ≡ filter p (f shard)) → (shards : List ShardView) → joined (map g shards) ≡ filter p (joined (map f shards))
joined_where p f g same [] = refl
joined_where p f g same (shard ∷ shards) = ap₂ (λ xs ys. xs ++ ys) (same shard) (joined_where p f g same shards) ∙ sym (filter-append p (f shard) (joined (map f shards)))

summed : (a b : ShardView → ℕ) (f g : ShardView → List RowValue) → ((shard : ShardView) → a shard + length (g shard) ≡ b shard + length (f shard)) → (shards : List ShardView)
    → sum_by a shards + length (joined (map g shards)) ≡ sum_by b shards + length (joined (map f shards))
summed a b f g here [] = refl
summed a b f g here (shard ∷ shards) =
    let first = here shard in
    let more = summed a b f g here shards in
    let x = sum_by-cons a shard shards in
    let y = sum_by-cons b shard shards in
    let u = length-append (g shard) (joined (map g shards)) in
    let v = length-append (f shard) (joined (map f shards)) in omega (arith, first, more, x, y, u, v)

-- ---- one row

timely : (direction : Direction) (place : RangeSide) → is_late direction place ≡ false → not (is_early direction place) ≡ is_side_within place
timely Asc Before e = refl
timely Asc Within e = refl
timely Asc Past e = absurd cc
timely Desc Before e = absurd cc
timely Desc Within e = refl
timely Desc Past e = refl

further : (h b c : Bool) → (c ≡ true → b ≡ true) → (h && c) ≡ ((h && b) && c)
further true true c f = refl
further true false false f = refl
further true false true f = absurd (let wrong = f refl in cc)
further false b c f = refl

nothing_more : (a : Bool) → (a && false) ≡ false
nothing_more true = refl
nothing_more false = refl

one_count : (early within b c : Bool) → (c ≡ true → b ≡ true) → (c ≡ false → early ≡ within)
    → one (early && b) + one (within && c) ≡ one (early && c) + one (within && b)
one_count early within b true f g = ap (λ x. one (early && x) + one (within && true)) (f refl) ∙ ap (λ x. one (early && true) + one (within && x)) (sym (f refl))
one_count early within b false f g =
    let e : one (early && b) ≡ one (within && b) = ap (λ x. one (x && b)) (g refl) in
    let u : one (within && false) ≡ 0 = ap one (nothing_more within) in
    let v : one (early && false) ≡ 0 = ap one (nothing_more early) in omega (arith, e, u, v)

turned : (a b : Ordering) → a ≡ ordering_reverse b → is_gt b ≡ true → is_gt a ≡ false
turned a Less e h = absurd cc
turned a Equal e h = absurd cc
turned a Greater e h = ap is_gt e

not_both : (b : Bool) → (b ≡ true → ⊥) → b ≡ false
not_both true f = absurd (f refl)
not_both false f = refl

-- ---- after a row that a search reaches, before its range ends

module _ (direction : Direction) (range : Range) (after : Option RowValue) (p : RowValue) (there : is_beyond direction (option_map (row_value_order p) after) ≡ true) (timed : is_late_row direction range p ≡ false) where
  abbrev order : RowValue → RowValue → Ordering
  order = directed_order direction

  abbrev later : RowValue → Bool
  later r = comes_after direction (Some p) r

  beyond_both : (r : RowValue) → later r ≡ true → comes_after direction after r ≡ true
  beyond_both r e =
      sym (beyond_is direction after r) ∙ beyond_rises direction after p r (turned (order p r) (order r p) ((directed_total direction).antisymm p r) e) there

  -- a row that does not come after p does not come after the range
  still_timed : (r : RowValue) → later r ≡ false → is_late_row direction range r ≡ false
  still_timed r e = not_both (is_late_row direction range r) (λ late. let wrong : true ≡ false = sym (late_rises direction range r p e late) ∙ timed in absurd cc)

  -- a row is wanted after p if it is wanted after `after` and comes after p
  wanted_after : (r : RowValue) → is_wanted (input_of_parts everything range (Some p) 0 direction []) r ≡ (is_wanted (input_of_parts everything range after 0 direction []) r && later r)
  wanted_after r = further (is_side_within (row_side range r)) (comes_after direction after r) (later r) (beyond_both r)

  counted : (r : RowValue)
      → one (reached direction range after r) + one (is_wanted (input_of_parts everything range (Some p) 0 direction []) r)
      ≡ one (reached direction range (Some p) r) + one (is_wanted (input_of_parts everything range after 0 direction []) r)
  counted r =
      ap (λ b. one (not (is_early direction (row_side range r)) && b) + one (is_side_within (row_side range r) && later r)) (beyond_is direction after r)
      ∙ one_count (not (is_early direction (row_side range r))) (is_side_within (row_side range r)) (comes_after direction after r) (later r) (beyond_both r)
      (λ e. timely direction (row_side range r) (still_timed r e))

  -- the rows that come after p are the last
  later_last : (xs : List RowValue) → Rises order xs → LateLast later xs
  later_last [] h = tt
  later_last (x ∷ xs) h = (rest xs h.0, later_last xs h.1)
    where
      rest : (ys : List RowValue) → NoneBelow order x ys → later x ≡ true → AllByRecursion (λ y. later y ≡ true) ys
      rest [] k e = tt
      rest (y ∷ ys) k e = (beyond_rises direction (Some p) x y k.0 e, rest ys k.1 e)

  after_sorted : (xs : List RowValue) → sorted_rows direction (filter later xs) ≡ drop (length xs - length (filter later xs)) (sorted_rows direction xs)
  after_sorted xs =
      let rows = sorted_rows direction xs in
      let kept = sorted_rows-where later direction xs in
      let a = length_permutation xs rows (permutation_sorted order xs) in
      let b = length_permutation (filter later xs) (sorted_rows direction (filter later xs)) (permutation_sorted order (filter later xs)) in
      let c = ap length kept in
      let e : length rows - length (filter later rows) ≡ length xs - length (filter later xs) = omega (arith, a, b, c) in
      kept ∙ last_ones later rows (later_last rows (rises_sorted order (directed_total direction) xs)) ∙ ap (λ n. drop n rows) e

  -- ---- in one shard

  abbrev all_of : List Steps → List ServedDocument → List RowValue
  all_of columns ds = sorted_rows direction (filter_map (row_of columns) ds)

  scanned_after : (count more : ℕ) (columns : List Steps) (ds : List ServedDocument)
      → all_matches (input_of_parts everything range (Some p) more direction columns) ds ≡ filter later (all_matches (input_of_parts everything range after count direction columns) ds)
  scanned_after count more columns ds =
      let rows = sorted_rows direction (filter_map (row_of columns) (matching_documents (input_of_parts everything range after 0 direction []) ds)) in
      filter-same (is_wanted (input_of_parts everything range (Some p) 0 direction [])) (λ r. is_wanted (input_of_parts everything range after 0 direction []) r && later r) wanted_after rows
      ∙ sym (filter-both later (is_wanted (input_of_parts everything range after 0 direction [])) rows)

  abbrev columns_at : Option IndexDefinition → Option (List Steps)
  columns_at o = option_map (λ d. d.columns) o

  reached_count : (o : Option RowValue) (columns : List Steps) (ds : List ServedDocument)
      → length (beyond direction (begin_of_parts range o direction) (rows_of columns ds)) ≡ length (filter (reached direction range o) (all_of columns ds))
  reached_count o columns ds =
      let rows = filter_map (row_of columns) ds in
      ap length (begun direction range o (sorted row_value_order rows)) ∙ ap (λ xs. length (filter (reached direction range o) xs)) (sym (sorted-directed direction rows))

  scanned_count : (o : Option RowValue) (count : ℕ) (columns : List Steps) (ds : List ServedDocument)
      → length (all_matches (input_of_parts everything range o count direction columns) ds) ≡ length (filter (is_wanted (input_of_parts everything range o 0 direction [])) (all_of columns ds))
  scanned_count o count columns ds =
      ap (λ xs. length (filter (is_wanted (input_of_parts everything range o 0 direction [])) (sorted_rows direction (filter_map (row_of columns) xs)))) (all_asked ds)

  one_index : (count more : ℕ) (o : Option IndexDefinition) (ds : List ServedDocument)
      → option_map_or (λ rows. length (beyond direction (begin_of_parts range after direction) rows)) (option_map (λ d. rows_of d.columns ds) o) 0
      + length (option_map_or (λ columns. all_matches (input_of_parts everything range (Some p) more direction columns) ds) (columns_at o) [])
      ≡ option_map_or (λ rows. length (beyond direction (begin_of_parts range (Some p) direction) rows)) (option_map (λ d. rows_of d.columns ds) o) 0
      + length (option_map_or (λ columns. all_matches (input_of_parts everything range after count direction columns) ds) (columns_at o) [])
  one_index count more None ds = refl
  one_index count more (Some d) ds =
      let a = reached_count after d.columns ds in
      let b = reached_count (Some p) d.columns ds in
      let u = scanned_count (Some p) more d.columns ds in
      let v = scanned_count after count d.columns ds in
      ap₂ (λ m n. m + n) a u ∙ counts_alike (reached direction range after) (reached direction range (Some p)) (is_wanted (input_of_parts everything range (Some p) 0 direction [])) (is_wanted (input_of_parts everything range after 0 direction [])) counted (all_of d.columns ds) ∙ sym (ap₂ (λ m n. m + n) b v)

  pub one_counted : (count more : ℕ) (target : TargetRef) (shard : ShardView) → IsIndex target
      → count_upcoming target range after direction shard + length (all_found_in target (input_of_parts everything range (Some p) more direction) shard)
      ≡ count_upcoming target range (Some p) direction shard + length (all_found_in target (input_of_parts everything range after count direction) shard)
  one_counted count more AllDocs shard is = absurd is
  one_counted count more (Index x) shard is = one_index count more (definition_at x.ddoc.now x.name.now shard.definitions) (docs_of shard.documents)

  found_or : (count more : ℕ) (o : Option (List Steps)) (ds : List ServedDocument)
      → option_map_or (λ columns. all_matches (input_of_parts everything range (Some p) more direction columns) ds) o []
      ≡ filter later (option_map_or (λ columns. all_matches (input_of_parts everything range after count direction columns) ds) o [])
  found_or count more None ds = refl
  found_or count more (Some columns) ds = scanned_after count more columns ds

  pub one_found : (count more : ℕ) (target : TargetRef) (shard : ShardView)
      → all_found_in target (input_of_parts everything range (Some p) more direction) shard ≡ filter later (all_found_in target (input_of_parts everything range after count direction) shard)
  one_found count more target shard = found_or count more (target_columns target shard.definitions) (docs_of shard.documents)

  -- ---- in all shards

  pub all_passed : (count more : ℕ) (target : TargetRef) (shards : List ShardView) → IsIndex target
      → sorted_rows direction (joined (map (all_found_in target (input_of_parts everything range (Some p) more direction)) shards))
      ≡ drop (sum_by (count_upcoming target range after direction) shards - sum_by (count_upcoming target range (Some p) direction) shards)
      (sorted_rows direction (joined (map (all_found_in target (input_of_parts everything range after count direction)) shards)))
  all_passed count more target shards is =
      let before = joined (map (all_found_in target (input_of_parts everything range after count direction)) shards) in
      let behind = joined (map (all_found_in target (input_of_parts everything range (Some p) more direction)) shards) in
      let kept = joined_where later (all_found_in target (input_of_parts everything range after count direction)) (all_found_in target (input_of_parts everything range (Some p) more direction)) (one_found count more target) shards in
      let sums = summed (count_upcoming target range after direction) (count_upcoming target range (Some p) direction) (all_found_in target (input_of_parts everything range after count direction))
      (all_found_in target (input_of_parts everything range (Some p) more direction)) (λ shard. one_counted count more target shard is) shards in
      let size = ap length kept in
      let e : length before - length (filter later before) ≡ sum_by (count_upcoming target range after direction) shards - sum_by (count_upcoming target range (Some p) direction) shards = omega (arith, sums, size) in
      ap (sorted_rows direction) kept ∙ after_sorted before ∙ ap (λ n. drop n (sorted_rows direction before)) e

-- ---- searches

second : (a b : Bool) → (a && b) ≡ true → b ≡ true
second true b e = e
second false b e = absurd cc

-- a row that a search reaches comes after the row after which it begins
pub reached_beyond : (s : Search) (r : RowValue) → reached s.direction s.range.now (after_of s) r ≡ true → is_beyond s.direction (option_map (row_value_order r) (after_of s)) ≡ true
reached_beyond s r e = second (not (is_early s.direction (row_side s.range.now r))) (is_beyond s.direction (option_map (row_value_order r) (after_of s))) e

-- if the range decides, the first rows that are found in all shards are the first of all rows in the range
first_rows : (s : Search) (shards : List ShardView) → AreDecided shards s → merged s.direction s.take (map (found_by s) shards) ≡ take s.take (sorted_rows s.direction (joined (map (all_found_by (without_selector s)) shards)))
first_rows s shards decided = ap (merged s.direction s.take) (sym (all_alike s shards decided)) ∙ sym (found_merged (without_selector s) shards)

-- the page stays the same if its search begins after a row up to which it skips all rows
pub passed_page : (shards : List ShardView) (s : Search) (skip upcoming beyond count : ℕ) (row : Bor RowValue) → IsIndex s.target → upcoming ≡ count_all_upcoming shards s
    → IsWithin s row.now → (n : ℕ) → beyond ≡ count_all_upcoming shards (beyond_row s row n) → count ≡ upcoming - beyond → n ≡ s.take - count → count ≤ skip → HasPageOf shards s skip (beyond_row s row n) (skip - count)
passed_page shards s skip upcoming beyond count row index a within n b c e le =
    let t = beyond_row s row n in
    let rows = sorted_rows s.direction (joined (map (all_found_by (without_selector s)) shards)) in
    let here : count ≡ count_all_upcoming shards s - count_all_upcoming shards t = omega (arith, a, b, c) in
    let shorter : n ≤ s.take = omega (arith, e) in
    let sum : count + (skip - count) ≡ skip = omega (arith, le) in
    let left : sorted_rows s.direction (joined (map (all_found_by (without_selector t)) shards)) ≡ drop count rows =
    all_passed s.direction s.range.now (after_of s) row.now (reached_beyond s row.now within.begun) within.timely s.take n s.target shards index ∙ ap (λ m. drop m rows) (sym here) in
    record {
      same = refl;
      take = shorter;
      page = λ decided.
          ap (drop (skip - count)) (first_rows t shards decided ∙ ap (take n) left ∙ ap (λ m. take m (drop count rows)) e ∙ sym (drop_taken count s.take rows))
          ∙ drop-drop (skip - count) count (take s.take rows) ∙ ap (λ m. drop m (take s.take rows)) sum
          ∙ ap (drop skip) (sym (first_rows s shards decided));
    }

-- `passed_page`, with the searches after the row and the counts as variables that equal them
pub counted_page : (shards : List ShardView) (s : Search) (skip upcoming beyond count : ℕ) (row : Bor RowValue) → IsIndex s.target → upcoming ≡ count_all_upcoming shards s → IsWithin s row.now → (n : ℕ) (t u : Search)
    → t ≡ beyond_row s row 0 → beyond ≡ count_all_upcoming shards t → count ≡ upcoming - beyond → n ≡ s.take - count → count ≤ skip → u ≡ beyond_row s row n → HasPageOf shards s skip u (skip - count)
counted_page shards s skip upcoming beyond count row index a within n t u is b c e le be =
    subst (λ (x : Search). HasPageOf shards s skip x (skip - count)) (sym be)
    (passed_page shards s skip upcoming beyond count row index a within n (b ∙ ap (count_all_upcoming shards) is) c e le)

pub upcoming_still : (shards : List ShardView) (s : Search) (row : Bor RowValue) (beyond n : ℕ) (t u : Search) → t ≡ beyond_row s row 0 → beyond ≡ count_all_upcoming shards t → u ≡ beyond_row s row n → beyond ≡ count_all_upcoming shards u
upcoming_still shards s row beyond n t u is b be = b ∙ ap (count_all_upcoming shards) is ∙ sym (ap (count_all_upcoming shards) be)

pub same_page : (shards : List ShardView) (s : Search) (skip : ℕ) → HasPageOf shards s skip s skip
same_page shards s skip = record { same = refl; take = omega arith; page = λ decided. refl }

pub decided_still : (shards : List ShardView) (s t : Search) → t ≡ record s { after = t.after; take = t.take } → AreDecided shards s → AreDecided shards t
decided_still shards s t e h = subst (λ (x : Search). AreDecided shards x) (sym e) h

pub index_still : (s t : Search) → t ≡ record s { after = t.after; take = t.take } → IsIndex s.target → IsIndex t.target
index_still s t e h = subst (λ (x : Search). IsIndex x.target) (sym e) h

pub pages_on : (shards : List ShardView) (s t u : Search) (skip left rest : ℕ) → HasPageOf shards s skip t left → HasPageOf shards t left u rest → HasPageOf shards s skip u rest
pages_on shards s t u skip left rest h k =
    let shorter : u.take ≤ s.take = omega (arith, h.take, k.take) in
    record {
      same = k.same ∙ ap (λ (x : Search). record x { after = u.after; take = u.take }) h.same;
      take = shorter;
      page = λ decided. k.page (decided_still shards s t h.same decided) ∙ h.page decided;
    }
