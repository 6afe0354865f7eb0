-- Rows of an index: a sorted list without ties is determined by which rows it contains, and that is determined id by id.
use lib.Dec.{T}
use Rattle.std.proofs.Common.{◌≡◌, ℕ, ◌+◌, ◌≤◌, Bool, true, false, ◌&&◌, List, [], ◌∷◌, ◌++◌, Ordering, Less, Equal, Greater, Option, Some, None, option_map, option_and_then, cond, is_eq, is_lt, is_gt, refl, ap, ap₂, sym, subst, ◌∙◌, arith}
use Rattle.std.proofs.lemmas.Cmp.{nat_list_cmp_total, tied_itself}
use Rattle.std.specs.List.{AllByRecursion, cons_option, filter, filter_map}
use Rattle.std.specs.Ordering.{eq_by_cmp, ordering_reverse}
use Rattle.std.specs.FinMap.Entries.{below_all}
use Rattle.std.specs.FinMap.{entries, entries_sorted, find, get, get-entries, get-insert, insert, is_sorted}
use Rattle.mg_value.specs.Value.{Items, Value}
use Rattle.std.specs.List.Sorted.{IsPermutation, IsSorted}
use Rattle.std.proofs.lemmas.List.Recursion.{is_count_by}
use Rattle.std.proofs.lemmas.List.Sorted.{sum_by-IsPermutation}
use Rattle.mg_collate.specs.Row.{RowValue, row_value_order, row_value_order_total}
use Rattle.mg_collate.specs.Sorted.{sorted}
use Rattle.mg_collate.proofs.Sorting.{NoneBelow, Rises, permutation_sorted, rises, rises_sorted, same_list, times, times_permutation}
use Rattle.mg_collate.proofs.Ties.{same_rows}
use Rattle.mg_index.specs.Definition.{Steps}
use Rattle.mg_pages.specs.Order.{Ascends, above, below, inserted, removed}
use Rattle.mg_shard.specs.Documents.{KeptDocument, KeptDocuments, doc_entry, docs_of}
use Rattle.mg_shard.specs.Histories.{ServedDocument}
use Rattle.mg_shard.specs.Mended.{own_row, with_row, without_row}
use Rattle.mg_shard.specs.Rows.{row_key, row_of, rows_of}
use Rattle.mg_shard.proofs.Shown.{bytes_cmp}
use Rattle.mg_shard.proofs.Standing.{same_id, tied}

abbrev pub count : RowValue → List RowValue → ℕ
count z rows = times row_value_order z rows

-- how often a row occurs in an optional row: 0 or 1
abbrev pub count_one : RowValue → Option RowValue → ℕ
count_one z None = 0
count_one z (Some r) = cond (is_eq (row_value_order z r)) 1 0

-- ---- lists in order

count_step : (b : Bool) (n : ℕ) → cond b (1 + n) n ≡ cond b 1 0 + n
count_step true n = omega arith
count_step false n = omega arith

pub count-cons : (z r : RowValue) (rows : List RowValue) → count z (r ∷ rows) ≡ count_one z (Some r) + count z rows
count-cons z r rows = count_step (is_eq (row_value_order z r)) (count z rows)

pub count-append : (z : RowValue) (rows more : List RowValue) → count z (rows ++ more) ≡ count z rows + count z more
count-append z [] more = omega arith
count-append z (r ∷ rows) more = let e = count-append z rows more in let f = count-cons z r (rows ++ more) in let g = count-cons z r rows in omega (arith, e, f, g)

-- rows that tie pass the same tests, since they are equal
same_where : (p : RowValue → Bool) (z r : RowValue) → is_eq (row_value_order z r) ≡ true → p r ≡ p z
same_where p z r e = ap p (sym (same_rows z r (tied (row_value_order z r) e)))

where_step : (b : Bool) (p q : Bool) (z r : RowValue) (rows : List RowValue) (n : ℕ) → is_eq (row_value_order z r) ≡ b → (b ≡ true → p ≡ q) → count z rows ≡ cond q n 0
    → count z (cond p (r ∷ rows) rows) ≡ cond q (cond b (1 + n) n) 0
where_step b true true z r rows n is same e = ap₂ (λ t m. cond t (1 + m) m) is e
where_step true true false z r rows n is same e = let wrong = same refl in absurd cc
where_step false true false z r rows n is same e = ap₂ (λ t m. cond t (1 + m) m) is e
where_step true false true z r rows n is same e = let wrong = same refl in absurd cc
where_step false false true z r rows n is same e = e
where_step b false false z r rows n is same e = e

nothing : (b : Bool) → ◌≡◌ {A = ℕ} 0 (cond b 0 0)
nothing true = refl
nothing false = refl

-- how often a row occurs among those that pass a test
count-where : (p : RowValue → Bool) (z : RowValue) (rows : List RowValue) → count z (filter p rows) ≡ cond (p z) (count z rows) 0
count-where p z [] = nothing (p z)
count-where p z (r ∷ rows) = where_step (is_eq (row_value_order z r)) (p r) (p z) z r (filter p rows) (count z rows) refl (same_where p z r) (count-where p z rows)

placed : (o : Ordering) (n : ℕ) → cond (is_gt o) n 0 + (cond (is_eq (ordering_reverse o)) 1 0 + cond (is_lt o) n 0) ≡ cond (is_eq (ordering_reverse o)) 1 n
placed Less n = omega arith
placed Equal n = refl
placed Greater n = omega arith

-- a row occurs once after it is inserted; the others occur as often as before
pub count-inserted : (z r : RowValue) (rows : List RowValue) → count z (inserted row_value_order r rows) ≡ cond (is_eq (row_value_order z r)) 1 (count z rows)
count-inserted z r rows =
    let turned : row_value_order z r ≡ ordering_reverse (row_value_order r z) = row_value_order_total.antisymm z r in
    count-append z (below (row_value_order r) rows) (r ∷ above (row_value_order r) rows)
    ∙ ap₂ (λ m n. m + n) (count-where (λ x. is_gt (row_value_order r x)) z rows)
    (count-cons z r (above (row_value_order r) rows) ∙ ap (λ n. cond (is_eq (row_value_order z r)) 1 0 + n) (count-where (λ x. is_lt (row_value_order r x)) z rows))
    ∙ ap (λ o. cond (is_gt (row_value_order r z)) (count z rows) 0 + (cond (is_eq o) 1 0 + cond (is_lt (row_value_order r z)) (count z rows) 0)) turned
    ∙ placed (row_value_order r z) (count z rows)
    ∙ ap (λ o. cond (is_eq o) 1 (count z rows)) (sym turned)

taken : (o : Ordering) (n : ℕ) → cond (is_gt o) n 0 + cond (is_lt o) n 0 ≡ cond (is_eq (ordering_reverse o)) 0 n
taken Less n = omega arith
taken Equal n = refl
taken Greater n = omega arith

-- a row does not occur after it is removed; the others occur as often as before
pub count-removed : (z r : RowValue) (rows : List RowValue) → count z (removed (row_value_order r) rows) ≡ cond (is_eq (row_value_order z r)) 0 (count z rows)
count-removed z r rows =
    let turned : row_value_order z r ≡ ordering_reverse (row_value_order r z) = row_value_order_total.antisymm z r in
    count-append z (below (row_value_order r) rows) (above (row_value_order r) rows)
    ∙ ap₂ (λ m n. m + n) (count-where (λ x. is_gt (row_value_order r x)) z rows) (count-where (λ x. is_lt (row_value_order r x)) z rows)
    ∙ taken (row_value_order r z) (count z rows)
    ∙ ap (λ o. cond (is_eq o) 0 (count z rows)) (sym turned)

none_below : (r : RowValue) (rows : List RowValue) → AllByRecursion (λ x. row_value_order r x ≡ Less) rows → NoneBelow row_value_order r rows
none_below r [] h = tt
none_below r (x ∷ rows) h = (ap is_gt h.0, none_below r rows h.1)

-- rows that ascend are sorted
pub ascends_rises : (rows : List RowValue) → Ascends row_value_order rows → Rises row_value_order rows
ascends_rises [] h = tt
ascends_rises (r ∷ rows) h = (none_below r rows h.0, ascends_rises rows h.1)

-- ---- the rows of documents

-- the row of the kept document of an id, if it has one
abbrev pub row_at : List Steps → List ℕ → Option KeptDocument → Option RowValue
row_at columns id None = None
row_at columns id (Some d) = option_and_then (row_of columns) (doc_entry (id, d))

-- the rows of documents, in the order of the ids
abbrev entry_rows : List Steps → List (List ℕ × KeptDocument) → List RowValue
entry_rows columns es = filter_map (row_of columns) (filter_map doc_entry es)

count-option : (z : RowValue) (o : Option RowValue) (rows : List RowValue) → count z (cons_option o rows) ≡ count_one z o + count z rows
count-option z None rows = omega arith
count-option z (Some r) rows = count-cons z r rows

count-entry : (columns : List Steps) (z : RowValue) (o : Option ServedDocument) (ds : List ServedDocument)
    → count z (filter_map (row_of columns) (cons_option o ds)) ≡ count_one z (option_and_then (row_of columns) o) + count z (filter_map (row_of columns) ds)
count-entry columns z None ds = omega arith
count-entry columns z (Some d) ds = count-option z (row_of columns d) (filter_map (row_of columns) ds)

find_step : (r : Ordering) (b : Bool) (v : KeptDocument) (o : Option KeptDocument) → T (is_lt r && b) → (T b → o ≡ None) → cond (is_eq r) (Some v) o ≡ None
find_step Less b v o h rest = rest h
find_step Equal b v o h rest = absurd h
find_step Greater b v o h rest = absurd h

-- an id below all ids is not among them
find_below : (id : List ℕ) (es : List (List ℕ × KeptDocument)) → T (below_all bytes_cmp id es) → find bytes_cmp id es ≡ None
find_below id [] h = refl
find_below id (e ∷ es) h = find_step (bytes_cmp id e.0) (below_all bytes_cmp id es) e.1 (find bytes_cmp id es) h (find_below id es)

not_tied : (z r : RowValue) (b : Bool) → eq_by_cmp bytes_cmp z.1 r.1 ≡ false → is_eq (row_value_order z r) ≡ b → ◌≡◌ {A = ℕ} (cond b 1 0) 0
not_tied z r true apart e =
    let same : z ≡ r = same_rows z r (tied (row_value_order z r) e) in
    let one : eq_by_cmp bytes_cmp z.1 r.1 ≡ true = ap (λ x. eq_by_cmp bytes_cmp z.1 x.1) (sym same) ∙ ap is_eq (tied_itself nat_list_cmp_total z.1) in
    let wrong : true ≡ false = sym one ∙ apart in absurd cc
not_tied z r false apart e = refl

other_key : (z : RowValue) (id : List ℕ) (o : Option Items) → eq_by_cmp bytes_cmp z.1 id ≡ false → count_one z (option_map (λ key. (key, id)) o) ≡ 0
other_key z id None apart = refl
other_key z id (Some key) apart = not_tied z (key, id) (is_eq (row_value_order z (key, id))) apart refl

other_form : (columns : List Steps) (z : RowValue) (id : List ℕ) (o : Option Value) → eq_by_cmp bytes_cmp z.1 id ≡ false
    → count_one z (option_and_then (row_of columns) (option_map (λ form. (id, form)) o)) ≡ 0
other_form columns z id None apart = refl
other_form columns z id (Some form) apart = other_key z id (row_key columns form) apart

-- a row with another id is not the document's row
other_id : (columns : List Steps) (z : RowValue) (id : List ℕ) (o : Option KeptDocument) → eq_by_cmp bytes_cmp z.1 id ≡ false → count_one z (row_at columns id o) ≡ 0
other_id columns z id None apart = refl
other_id columns z id (Some d) apart = other_form columns z id d.1 apart

one_entry : (columns : List Steps) (z : RowValue) (e : List ℕ × KeptDocument) (es : List (List ℕ × KeptDocument)) (b : Bool) → eq_by_cmp bytes_cmp z.1 e.0 ≡ b → T (below_all bytes_cmp e.0 es)
    → count z (entry_rows columns es) ≡ count_one z (row_at columns z.1 (find bytes_cmp z.1 es))
    → count_one z (row_at columns e.0 (Some e.1)) + count z (entry_rows columns es) ≡ count_one z (row_at columns z.1 (cond b (Some e.1) (find bytes_cmp z.1 es)))
one_entry columns z e es true is below rest =
    let same : z.1 ≡ e.0 = same_id z.1 e.0 is in
    let none : count z (entry_rows columns es) ≡ 0 =
    rest ∙ ap (λ o. count_one z (row_at columns z.1 o)) (ap (λ i. find bytes_cmp i es) same ∙ find_below e.0 es below) in
    let here : count_one z (row_at columns e.0 (Some e.1)) ≡ count_one z (row_at columns z.1 (Some e.1)) = ap (λ i. count_one z (row_at columns i (Some e.1))) (sym same) in
    omega (arith, none, here)
one_entry columns z e es false is below rest = let none = other_id columns z e.0 (Some e.1) is in omega (arith, none, rest)

first : (a b : Bool) → T (a && b) → T a
first true b p = tt
first false b p = p

second : (a b : Bool) → T (a && b) → T b
second true b p = p
second false b p = absurd p

count-entries : (columns : List Steps) (z : RowValue) (es : List (List ℕ × KeptDocument)) → T (is_sorted bytes_cmp es) → count z (entry_rows columns es) ≡ count_one z (row_at columns z.1 (find bytes_cmp z.1 es))
count-entries columns z [] h = refl
count-entries columns z (e ∷ es) h =
    count-entry columns z (doc_entry e) (filter_map doc_entry es)
    ∙ one_entry columns z e es (eq_by_cmp bytes_cmp z.1 e.0) refl (first (below_all bytes_cmp e.0 es) (is_sorted bytes_cmp es) h)
    (count-entries columns z es (second (below_all bytes_cmp e.0 es) (is_sorted bytes_cmp es) h))

pub count-unsorted : (columns : List Steps) (z : RowValue) (ds : KeptDocuments) → count z (filter_map (row_of columns) (docs_of ds)) ≡ count_one z (row_at columns z.1 (get ds z.1))
count-unsorted columns z ds =
    count-entries columns z (entries ds) (entries_sorted ds) ∙ ap (λ o. count_one z (row_at columns z.1 o)) (sym (get-entries ds z.1))

-- a row occurs in an index exactly if it is the row of the document of its id
pub count-rows : (columns : List Steps) (z : RowValue) (ds : KeptDocuments) → count z (rows_of columns (docs_of ds)) ≡ count_one z (row_at columns z.1 (get ds z.1))
count-rows columns z ds =
    let unsorted = filter_map (row_of columns) (docs_of ds) in
    times_permutation row_value_order z unsorted (rows_of columns (docs_of ds)) (permutation_sorted row_value_order unsorted) ∙ count-unsorted columns z ds

-- ---- a document that changes

abbrev is_row : RowValue → Option RowValue → Bool
is_row z None = false
is_row z (Some r) = is_eq (row_value_order z r)

count-without : (z : RowValue) (o : Option RowValue) (rows : List RowValue) → count z (without_row o rows) ≡ cond (is_row z o) 0 (count z rows)
count-without z None rows = refl
count-without z (Some r) rows = count-removed z r rows

count-with : (z : RowValue) (o : Option RowValue) (rows : List RowValue) → count z (with_row o rows) ≡ cond (is_row z o) 1 (count z rows)
count-with z None rows = refl
count-with z (Some r) rows = count-inserted z r rows

count_one-is : (z : RowValue) (o : Option RowValue) → count_one z o ≡ cond (is_row z o) 1 0
count_one-is z None = refl
count_one-is z (Some r) = refl

changed : (b c : Bool) (n : ℕ) → n ≡ cond c 1 0 → cond b 1 (cond c 0 n) ≡ cond b 1 0
changed true c n e = refl
changed false true n e = refl
changed false false n e = e

unchanged : (b c : Bool) (n : ℕ) → ◌≡◌ {A = ℕ} (cond b 1 0) 0 → ◌≡◌ {A = ℕ} (cond c 1 0) 0 → cond b 1 (cond c 0 n) ≡ n
unchanged true c n e f = absurd (omega (arith, e))
unchanged false true n e f = absurd (omega (arith, f))
unchanged false false n e f = refl

mended_at : (columns : List Steps) (z : RowValue) (id : List ℕ) (k : KeptDocument) (d o : Option KeptDocument) (b : Bool) → eq_by_cmp bytes_cmp z.1 id ≡ b → (b ≡ true → o ≡ d)
    → cond (is_row z (row_at columns id (Some k))) 1 (cond (is_row z (row_at columns id d)) 0 (count_one z (row_at columns z.1 o)))
    ≡ count_one z (row_at columns z.1 (cond b (Some k) o))
mended_at columns z id k d o true is same =
    let here : z.1 ≡ id = same_id z.1 id is in
    let had : count_one z (row_at columns z.1 o) ≡ cond (is_row z (row_at columns id d)) 1 0 =
    ap₂ (λ i p. count_one z (row_at columns i p)) here (same refl) ∙ count_one-is z (row_at columns id d) in
    changed (is_row z (row_at columns id (Some k))) (is_row z (row_at columns id d)) (count_one z (row_at columns z.1 o)) had
    ∙ sym (ap (λ i. count_one z (row_at columns i (Some k))) here ∙ count_one-is z (row_at columns id (Some k)))
mended_at columns z id k d o false is same =
    unchanged (is_row z (row_at columns id (Some k))) (is_row z (row_at columns id d)) (count_one z (row_at columns z.1 o))
    (sym (count_one-is z (row_at columns id (Some k))) ∙ other_id columns z id (Some k) is) (sym (count_one-is z (row_at columns id d)) ∙ other_id columns z id d is)

-- after a document changes, the index with its old row removed and its new row inserted is the index made from scratch
pub rows_mended : (columns : List Steps) (ds : KeptDocuments) (id : List ℕ) (k : KeptDocument) (rows new : List RowValue) → rows ≡ rows_of columns (docs_of ds) → Rises row_value_order new
    → new ≡ with_row (row_at columns id (Some k)) (without_row (row_at columns id (get ds id)) rows) → new ≡ rows_of columns (docs_of (insert ds id k))
rows_mended columns ds id k rows new were rises is =
    same_list row_value_order row_value_order_total same_rows new (rows_of columns (docs_of (insert ds id k))) rises
    (rises_sorted row_value_order row_value_order_total (filter_map (row_of columns) (docs_of (insert ds id k)))) (λ z.
    let old = row_at columns id (get ds id) in
    let now = row_at columns id (Some k) in
    ap (count z) is ∙ count-with z now (without_row old rows) ∙ ap (cond (is_row z now) 1) (count-without z old rows)
    ∙ ap (λ n. cond (is_row z now) 1 (cond (is_row z old) 0 n)) (ap (count z) were ∙ count-rows columns z ds)
    ∙ mended_at columns z id k (get ds id) (get ds z.1) (eq_by_cmp bytes_cmp z.1 id) refl (λ b. ap (get ds) (same_id z.1 id b))
    ∙ ap (λ o. count_one z (row_at columns z.1 o)) (sym (get-insert nat_list_cmp_total ds id k z.1))
    ∙ sym (count-rows columns z (insert ds id k)))

left_at : (columns : List Steps) (z : RowValue) (id : List ℕ) (k : KeptDocument) (d o : Option KeptDocument) (b : Bool) → eq_by_cmp bytes_cmp z.1 id ≡ b → (b ≡ true → o ≡ d)
    → row_at columns id d ≡ row_at columns id (Some k) → count_one z (row_at columns z.1 o) ≡ count_one z (row_at columns z.1 (cond b (Some k) o))
left_at columns z id k d o true is same kept =
    let here : z.1 ≡ id = same_id z.1 id is in
    ap₂ (λ i p. count_one z (row_at columns i p)) here (same refl) ∙ ap (count_one z) kept ∙ ap (λ i. count_one z (row_at columns i (Some k))) (sym here)
left_at columns z id k d o false is same kept = refl

-- if a document changes and its row does not, the rows stay as they are
pub rows_left : (columns : List Steps) (ds : KeptDocuments) (id : List ℕ) (k : KeptDocument) (rows : List RowValue) → rows ≡ rows_of columns (docs_of ds)
    → row_at columns id (get ds id) ≡ row_at columns id (Some k) → rows ≡ rows_of columns (docs_of (insert ds id k))
rows_left columns ds id k rows were kept =
    were ∙ same_list row_value_order row_value_order_total same_rows (rows_of columns (docs_of ds)) (rows_of columns (docs_of (insert ds id k)))
    (rises_sorted row_value_order row_value_order_total (filter_map (row_of columns) (docs_of ds)))
    (rises_sorted row_value_order row_value_order_total (filter_map (row_of columns) (docs_of (insert ds id k)))) (λ z.
    count-rows columns z ds ∙ left_at columns z id k (get ds id) (get ds z.1) (eq_by_cmp bytes_cmp z.1 id) refl (λ b. ap (get ds) (same_id z.1 id b)) kept
    ∙ ap (λ o. count_one z (row_at columns z.1 o)) (sym (get-insert nat_list_cmp_total ds id k z.1))
    ∙ sym (count-rows columns z (insert ds id k)))

-- ---- rows that occur at most once

few_at : (b : Bool) → cond b 1 0 ≤ 1
few_at true = omega arith
few_at false = omega arith

few : (z : RowValue) (o : Option RowValue) (n : ℕ) → n ≡ count_one z o → n ≤ 1
few z None n e = omega (arith, e)
few z (Some r) n e = let at = few_at (is_eq (row_value_order z r)) in omega (arith, e, at)

pub at_most_once : (columns : List Steps) (z : RowValue) (ds : KeptDocuments) → count z (filter_map (row_of columns) (docs_of ds)) ≤ 1
at_most_once columns z ds = few z (row_at columns z.1 (get ds z.1)) (count z (filter_map (row_of columns) (docs_of ds))) (count-unsorted columns z ds)

-- a sorted list in which each row occurs as often as in another list is that list, sorted
pub sorted_is : (rows all : List RowValue) → Rises row_value_order rows → ((z : RowValue) → count z rows ≡ count z all) → rows ≡ sorted row_value_order all
sorted_is rows all rises same =
    same_list row_value_order row_value_order_total same_rows rows (sorted row_value_order all) rises (rises_sorted row_value_order row_value_order_total all)
    (λ z. same z ∙ sym (times_permutation row_value_order z all (sorted row_value_order all) (permutation_sorted row_value_order all)))

-- the row of a kept document is that of its form
pub own_at : (columns : List Steps) (id : List ℕ) (o : Option KeptDocument) → own_row columns id (option_and_then (λ d. d.1) o) ≡ row_at columns id o
own_at columns id None = refl
own_at columns id (Some d) = refl

-- ---- rows of which some are left out

all_where : {X : Type 0} (P : X → Type 0) (p : X → Bool) (xs : List X) → AllByRecursion P xs → AllByRecursion P (filter p xs)
all_where P p [] h = tt
all_where {X} P p (x ∷ xs) h = step (p x) (all_where P p xs h.1)
  where
    step : (b : Bool) → AllByRecursion P (filter p xs) → AllByRecursion P (cond b (x ∷ filter p xs) (filter p xs))
    step true k = (h.0, k)
    step false k = k

pub rises_where : {X : Type 0} (order : X → X → Ordering) (p : X → Bool) (xs : List X) → Rises order xs → Rises order (filter p xs)
rises_where order p [] h = tt
rises_where {X} order p (x ∷ xs) h = step (p x) (rises_where order p xs h.1)
  where
    step : (b : Bool) → Rises order (filter p xs) → Rises order (cond b (x ∷ filter p xs) (filter p xs))
    step true k = (all_where (λ y. is_gt (order x y) ≡ false) p xs h.0, k)
    step false k = k

-- rows may be left out before or after the sort
pub sorted-where : (p : RowValue → Bool) (rows : List RowValue) → sorted row_value_order (filter p rows) ≡ filter p (sorted row_value_order rows)
sorted-where p rows =
    sym (sorted_is (filter p (sorted row_value_order rows)) (filter p rows) (rises_where row_value_order p (sorted row_value_order rows) (rises_sorted row_value_order row_value_order_total rows))
    (λ z. count-where p z (sorted row_value_order rows)
    ∙ ap (λ n. cond (p z) n 0) (times_permutation row_value_order z rows (sorted row_value_order rows) (permutation_sorted row_value_order rows)) ∙ sym (count-where p z rows)))

-- ---- rows that are sorted

-- a sorted permutation of a list is that list, sorted
pub put_in_order : (old new : List RowValue) → IsPermutation old new → IsSorted row_value_order new → new ≡ sorted row_value_order old
put_in_order old new same order =
    sorted_is new old (rises row_value_order row_value_order_total new order) (λ z.
    let counted = is_count_by (λ (rows : List RowValue). count z rows) (λ r. is_eq (row_value_order z r)) refl (λ _ _. refl) in
    counted new ∙ sum_by-IsPermutation (λ r. cond (is_eq (row_value_order z r)) 1 0) old new same ∙ sym (counted old))

-- ---- sorted rows that occur once each

-- a row that is not above another, nor ties with it, is below it
strictly : (o : Ordering) (n : ℕ) → is_gt o ≡ false → cond (is_eq o) (1 + n) n ≡ 0 → (o ≡ Less) × (n ≡ 0)
strictly Less n h e = (refl, e)
strictly Equal n h e = absurd (omega (arith, e))
strictly Greater n h e = absurd cc

below_others : (z : RowValue) (rows : List RowValue) → NoneBelow row_value_order z rows → count z rows ≡ 0 → AllByRecursion (λ x. row_value_order z x ≡ Less) rows
below_others z [] h e = tt
below_others z (x ∷ rows) h e = let both = strictly (row_value_order z x) (count z rows) h.0 e in (both.0, below_others z rows h.1 both.1)

no_other : (o : Ordering) (n : ℕ) → o ≡ Equal → cond (is_eq o) (1 + n) n ≤ 1 → n ≡ 0
no_other Less n e h = absurd cc
no_other Equal n e h = omega (arith, h)
no_other Greater n e h = absurd cc

rises_strictly : (rows : List RowValue) → Rises row_value_order rows → ((z : RowValue) → count z rows ≤ 1) → Ascends row_value_order rows
rises_strictly [] h once = tt
rises_strictly (r ∷ rows) h once = (
  below_others r rows h.0 (no_other (row_value_order r r) (count r rows) (tied_itself row_value_order_total r) (once r)),
  rises_strictly rows h.1 (λ z. let all = once z in let one = count-cons z r rows in omega (arith, all, one)),
)

-- rows that occur once each ascend once they are sorted
pub sorted_ascends : (old new : List RowValue) → new ≡ sorted row_value_order old → ((z : RowValue) → count z old ≤ 1) → Ascends row_value_order new
sorted_ascends old new is once =
    rises_strictly new (subst (Rises row_value_order) (sym is) (rises_sorted row_value_order row_value_order_total old)) (λ z.
    let same : count z new ≡ count z old =
    ap (count z) is ∙ times_permutation row_value_order z old (sorted row_value_order old) (permutation_sorted row_value_order old) in
    let few = once z in omega (arith, same, few))

-- the rows of an index ascend
pub rows_ascend : (columns : List Steps) (rows : List RowValue) (ds : KeptDocuments) → rows ≡ rows_of columns (docs_of ds) → Ascends row_value_order rows
rows_ascend columns rows ds is = sorted_ascends (filter_map (row_of columns) (docs_of ds)) rows is (λ z. at_most_once columns z ds)
