-- What a search finds on its way is what it asks for: the rows from where it begins to the first late one are those in its range and after
-- the row `after`.
use Rattle.std.proofs.Common.{◌≡◌, ℕ, Bool, true, false, ◌&&◌, not, cond, List, [], ◌∷◌, ◌++◌, Option, Some, None, option_map, Less, Greater, is_gt, is_lt, reverse, refl, ap, ap₂, sym, ◌∙◌, subst, if◌then◌else◌}
use Rattle.std.proofs.lemmas.List.{reverse-append}
use Rattle.std.proofs.lemmas.List.Elements.{filter-append}
use Rattle.std.specs.List.{AllByRecursion, cons_option, filter, filter_map}
use Rattle.std.specs.Option.{option_map_or}
use Rattle.mg_collate.specs.Direction.{directed}
use Rattle.mg_collate.specs.Row.{RowValue, directed_order, row_value_order}
use Rattle.mg_collate.specs.Sorted.{sorted, sorted_rows}
use Rattle.mg_collate.specs.declared.direction.Direction.{Direction}
use Rattle.mg_collate.specs.declared.direction.Direction.TheVariants.{Asc, Desc}
use Rattle.mg_collate.proofs.Directed.{directed_total, sorted_descending}
use Rattle.mg_collate.proofs.Sorting.{NoneBelow, Rises, rises_sorted}
use Rattle.mg_index.specs.Definition.{Steps}
use Rattle.mg_normal.specs.Normal.{NormalForm, normal_holds}
use Rattle.mg_range.specs.RangeSide.{is_early, is_late, is_side_within}
use Rattle.mg_range.specs.Range.{Range}
use Rattle.mg_range.specs.declared.side.RangeSide.{RangeSide}
use Rattle.mg_range.specs.declared.side.RangeSide.TheVariants.{Before, Within, Past}
use Rattle.mg_scan.specs.Scan.{SearchInput, all_matches, comes_after, is_wanted}
use Rattle.mg_scan.specs.Walked.{begin_order, holds_at, is_beyond, is_late_row, walked_all}
use Rattle.mg_scan.specs.Begins.{row_side, reached}
use Rattle.mg_scan.proofs.Late.{late_rises}
use Rattle.mg_shard.specs.Documents.{KeptDocuments, docs_of, form_at}
use Rattle.mg_shard.specs.Histories.{ServedDocument}
use Rattle.mg_shard.specs.Rows.{row_key, row_of, rows_of}
use Rattle.mg_pages.specs.Reading.{beyond, in_direction}
use Rattle.mg_value.specs.Value.{Items}
use Rattle.mg_shard.proofs.Rows.{rises_where, sorted-where}

-- ---- filters

pub filter-same : {X : Type 0} (p q : X → Bool) → ((x : X) → p x ≡ q x) → (xs : List X) → filter p xs ≡ filter q xs
filter-same p q same [] = refl
filter-same p q same (x ∷ xs) = ap₂ (λ b ys. cond b (x ∷ ys) ys) (same x) (filter-same p q same xs)

both_step : {X : Type 0} (p : X → Bool) (b : Bool) (x : X) (ys zs : List X) → filter p ys ≡ zs → filter p (cond b (x ∷ ys) ys) ≡ cond (b && p x) (x ∷ zs) zs
both_step p true x ys zs e = ap (λ us. cond (p x) (x ∷ us) us) e
both_step p false x ys zs e = e

pub filter-both : {X : Type 0} (p q : X → Bool) (xs : List X) → filter p (filter q xs) ≡ filter (λ x. q x && p x) xs
filter-both p q [] = refl
filter-both p q (x ∷ xs) = both_step p (q x) x (filter q xs) (filter (λ y. q y && p y) xs) (filter-both p q xs)

reverse_step : {X : Type 0} (b : Bool) (x : X) (ys : List X) → reverse ys ++ cond b (x ∷ []) [] ≡ reverse (cond b (x ∷ ys) ys)
reverse_step true x ys = sym (reverse-append (x ∷ []) ys)
reverse_step false x ys = no_more (reverse ys)
  where
    no_more : {X : Type 0} (us : List X) → us ++ [] ≡ us
    no_more [] = refl
    no_more (u ∷ us) = ap (λ vs. u ∷ vs) (no_more us)

pub filter-reverse : {X : Type 0} (p : X → Bool) (xs : List X) → filter p (reverse xs) ≡ reverse (filter p xs)
filter-reverse p [] = refl
filter-reverse p (x ∷ xs) =
    ap (filter p) (reverse-append (x ∷ []) xs) ∙ filter-append p (reverse xs) (x ∷ []) ∙ ap (λ ys. ys ++ filter p (x ∷ [])) (filter-reverse p xs) ∙ reverse_step (p x) x (filter p xs)

filter-directed : (p : RowValue → Bool) (direction : Direction) (xs : List RowValue) → filter p (in_direction direction xs) ≡ in_direction direction (filter p xs)
filter-directed p Asc xs = refl
filter-directed p Desc xs = filter-reverse p xs

-- ---- rows in order

pub sorted-directed : (direction : Direction) (xs : List RowValue) → sorted_rows direction xs ≡ in_direction direction (sorted row_value_order xs)
sorted-directed Asc xs = refl
sorted-directed Desc xs = sorted_descending xs

pub sorted_rows-where : (p : RowValue → Bool) (direction : Direction) (xs : List RowValue) → sorted_rows direction (filter p xs) ≡ filter p (sorted_rows direction xs)
sorted_rows-where p direction xs =
    sorted-directed direction (filter p xs) ∙ ap (in_direction direction) (sorted-where p xs) ∙ sym (filter-directed p direction (sorted row_value_order xs)) ∙ ap (filter p) (sym (sorted-directed direction xs))

lt_up : (b : Bool) → is_lt (directed Asc (if b then Less else Greater)) ≡ b
lt_up true = refl
lt_up false = refl

gt_down : (b : Bool) → is_gt (directed Desc (if b then Less else Greater)) ≡ b
gt_down true = refl
gt_down false = refl

-- the rows that come after the place where a search begins are those that it reaches
pub begun : (direction : Direction) (range : Range) (after : Option RowValue) (xs : List RowValue)
    → beyond direction (λ r. begin_order direction (row_side range r) (option_map (row_value_order r) after)) xs ≡ filter (reached direction range after) (in_direction direction xs)
begun Asc range after xs = filter-same _ (reached Asc range after) (λ r. lt_up (reached Asc range after r)) xs
begun Desc range after xs =
    ap reverse (filter-same _ (reached Desc range after) (λ r. gt_down (reached Desc range after r)) xs) ∙ sym (filter-reverse (reached Desc range after) xs)

-- ---- late rows

-- what comes after a late row is late
abbrev pub LateLast : (RowValue → Bool) → List RowValue → Type 0
LateLast late [] = Unit {0}
LateLast late (r ∷ rows) = (late r ≡ true → AllByRecursion (λ x. late x ≡ true) rows) × LateLast late rows

all_late : (direction : Direction) (range : Range) (r : RowValue) (rows : List RowValue) → NoneBelow (directed_order direction) r rows → is_late_row direction range r ≡ true
    → AllByRecursion (λ x. is_late_row direction range x ≡ true) rows
all_late direction range r [] h e = tt
all_late direction range r (x ∷ rows) h e = (late_rises direction range r x h.0 e, all_late direction range r rows h.1 e)

late_last : (direction : Direction) (range : Range) (rows : List RowValue) → Rises (directed_order direction) rows → LateLast (is_late_row direction range) rows
late_last direction range [] h = tt
late_last direction range (r ∷ rows) h = (all_late direction range r rows h.0, late_last direction range rows h.1)

none_left : (late : RowValue → Bool) (rows : List RowValue) → AllByRecursion (λ x. late x ≡ true) rows → filter (λ r. not (late r)) rows ≡ []
none_left late [] h = refl
none_left late (r ∷ rows) h = ap (λ b. cond (not b) (r ∷ filter (λ x. not (late x)) rows) (filter (λ x. not (late x)) rows)) h.0 ∙ none_left late rows h.1

all_step : (late holds : RowValue → Bool) (r : RowValue) (rows : List RowValue) (b h : Bool) → late r ≡ b → holds r ≡ h → (late r ≡ true → AllByRecursion (λ x. late x ≡ true) rows)
    → walked_all late holds rows ≡ filter holds (filter (λ x. not (late x)) rows)
    → (if b then [] else if h then r ∷ walked_all late holds rows else walked_all late holds rows)
    ≡ filter holds (cond (not b) (r ∷ filter (λ x. not (late x)) rows) (filter (λ x. not (late x)) rows))
all_step late holds r rows true h e f last more = ap (filter holds) (sym (none_left late rows (last e)))
all_step late holds r rows false true e f last more =
    ap (λ xs. r ∷ xs) more ∙ ap (λ b. cond b (r ∷ filter holds (filter (λ x. not (late x)) rows)) (filter holds (filter (λ x. not (late x)) rows))) (sym f)
all_step late holds r rows false false e f last more =
    more ∙ ap (λ b. cond b (r ∷ filter holds (filter (λ x. not (late x)) rows)) (filter holds (filter (λ x. not (late x)) rows))) (sym f)

walked_all_is : (late holds : RowValue → Bool) (rows : List RowValue) → LateLast late rows → walked_all late holds rows ≡ filter holds (filter (λ r. not (late r)) rows)
walked_all_is late holds [] h = refl
walked_all_is late holds (r ∷ rows) h = all_step late holds r rows (late r) (holds r) refl refl h.0 (walked_all_is late holds rows h.1)

-- ---- which rows are wanted

chosen : (direction : Direction) (place : RangeSide) (b h : Bool) → ((not (is_early direction place) && b) && (not (is_late direction place) && h)) ≡ (h && (is_side_within place && b))
chosen Asc Before b true = refl
chosen Asc Before b false = refl
chosen Asc Within true true = refl
chosen Asc Within true false = refl
chosen Asc Within false true = refl
chosen Asc Within false false = refl
chosen Asc Past true true = refl
chosen Asc Past true false = refl
chosen Asc Past false true = refl
chosen Asc Past false false = refl
chosen Desc Before true true = refl
chosen Desc Before true false = refl
chosen Desc Before false true = refl
chosen Desc Before false false = refl
chosen Desc Within true true = refl
chosen Desc Within true false = refl
chosen Desc Within false true = refl
chosen Desc Within false false = refl
chosen Desc Past b true = refl
chosen Desc Past b false = refl

pub beyond_is : (direction : Direction) (after : Option RowValue) (r : RowValue) → is_beyond direction (option_map (row_value_order r) after) ≡ comes_after direction after r
beyond_is direction None r = refl
beyond_is direction (Some p) r = refl

-- ---- which documents are asked for

asked_step : (p : RowValue → Bool) (o : Option RowValue) (a : Bool) (xs ys : List RowValue) → ((r : RowValue) → o ≡ Some r → p r ≡ a) → xs ≡ filter p ys → (if a then cons_option o xs else xs) ≡ filter p (cons_option o ys)
asked_step p None true xs ys same e = e
asked_step p None false xs ys same e = e
asked_step p (Some r) true xs ys same e = ap₂ (λ b zs. cond b (r ∷ zs) zs) (sym (same r refl)) e
asked_step p (Some r) false xs ys same e = e ∙ ap (λ b. cond b (r ∷ filter p ys) (filter p ys)) (sym (same r refl))

pushed : {X Y : Type 0} (f : X → Option Y) (b : Bool) (x : X) (xs : List X) → filter_map f (cond b (x ∷ xs) xs) ≡ (if b then cons_option (f x) (filter_map f xs) else filter_map f xs)
pushed f true x xs = refl
pushed f false x xs = refl

pub named_id : (id : List ℕ) (o : Option Items) (r : RowValue) → option_map (λ key. (key, id)) o ≡ Some r → r.1 ≡ id
named_id id None r e = absurd cc
named_id id (Some key) r e = let same : ◌≡◌ {A = RowValue} (key, id) r = cc in ap (λ (x : RowValue). x.1) (sym same)

-- the rows of the documents that match are the rows whose documents match
asked_is : (columns : List Steps) (normal : NormalForm) (ds : KeptDocuments) (docs : List ServedDocument) → AllByRecursion (λ d. form_at ds d.0 ≡ Some d.1) docs
    → filter_map (row_of columns) (filter (λ d. normal_holds normal (Some d.1)) docs) ≡ filter (λ r. holds_at normal ds r.1) (filter_map (row_of columns) docs)
asked_is columns normal ds [] h = refl
asked_is columns normal ds (d ∷ docs) h =
    pushed (row_of columns) (normal_holds normal (Some d.1)) d (filter (λ x. normal_holds normal (Some x.1)) docs)
    ∙ asked_step (λ r. holds_at normal ds r.1) (row_of columns d) (normal_holds normal (Some d.1)) (filter_map (row_of columns) (filter (λ x. normal_holds normal (Some x.1)) docs)) (filter_map (row_of columns) docs)
    (λ r e. ap (holds_at normal ds) (named_id d.0 (row_key columns d.1) r e) ∙ ap (λ o. option_map_or (λ form. normal_holds normal (Some form)) o false) h.0)
    (asked_is columns normal ds docs h.1)

-- ---- the whole search

-- the rows are those of an index of the columns, from where the search begins
abbrev pub AreBegun : SearchInput → KeptDocuments → List RowValue → Type 0
AreBegun q ds rows = rows ≡ beyond q.direction (λ r. begin_order q.direction (row_side q.range r) (option_map (row_value_order r) q.after)) (rows_of q.columns (docs_of ds))

module _ (q : SearchInput) (ds : KeptDocuments) (rows : List RowValue) (own : AllByRecursion (λ d. form_at ds d.0 ≡ Some d.1) (docs_of ds)) (is : AreBegun q ds rows) where
  abbrev direction : Direction
  direction = q.direction

  abbrev unsorted : List RowValue
  unsorted = filter_map (row_of q.columns) (docs_of ds)

  abbrev all : List RowValue
  all = sorted_rows direction unsorted

  abbrev holds : RowValue → Bool
  holds r = holds_at q.normal ds r.1

  abbrev late : RowValue → Bool
  late = is_late_row direction q.range

  abbrev on_time : RowValue → Bool
  on_time r = not (late r)

  abbrev reach : RowValue → Bool
  reach = reached direction q.range q.after

  begun_at : rows ≡ filter reach all
  begun_at = is ∙ begun direction q.range q.after (sorted row_value_order unsorted) ∙ ap (filter reach) (sym (sorted-directed direction unsorted))

  late_ones : LateLast late (filter reach all)
  late_ones = late_last direction q.range (filter reach all) (rises_where (directed_order direction) reach all (rises_sorted (directed_order direction) (directed_total direction) unsorted))

  pub late_rows : LateLast late rows
  late_rows = subst (LateLast late) (sym begun_at) late_ones

  wanted_ones : filter holds (filter on_time (filter reach all)) ≡ all_matches q (docs_of ds)
  wanted_ones =
      filter-both holds on_time (filter reach all) ∙ filter-both (λ r. on_time r && holds r) reach all
      ∙ filter-same (λ r. reach r && (on_time r && holds r)) (λ r. holds r && is_wanted q r)
      (λ r. chosen direction (row_side q.range r) (is_beyond direction (option_map (row_value_order r) q.after)) (holds r)
      ∙ ap (λ b. holds r && (is_side_within (row_side q.range r) && b)) (beyond_is direction q.after r)) all
      ∙ sym (filter-both (is_wanted q) holds all)
      ∙ ap (filter (is_wanted q)) (sym (sorted_rows-where holds direction unsorted) ∙ ap (sorted_rows direction) (sym (asked_is q.columns q.normal ds (docs_of ds) own)))

  pub all_found_rows : walked_all late holds rows ≡ all_matches q (docs_of ds)
  all_found_rows = ap (walked_all late holds) begun_at ∙ walked_all_is late holds (filter reach all) late_ones ∙ wanted_ones
