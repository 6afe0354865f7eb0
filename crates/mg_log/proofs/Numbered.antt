-- Rows with consecutive numbers.
use Rattle.std.proofs.Common.{◌≡◌, ℕ, ◌+◌, List, [], ◌∷◌, ◌++◌, length, map, false, ◌||◌, refl, ap, ◌∙◌, arith}
use Rattle.std.specs.List.Sorted.{IsPermutation}
use Rattle.std.specs.declared.cmp.Ordering.{Ordering}
use Rattle.std.specs.declared.cmp.Ordering.TheVariants.{Less, Equal, Greater}
use Rattle.std.specs.Ordering.{is_eq, match_ordering}
use Rattle.std.proofs.lemmas.List.Sorted.{IsPermutation-refl, IsPermutation-trans, IsPermutation-cons, IsPermutation-middle, IsPermutation-map, IsPermutation-to_front}
use Rattle.sqlite.specs.Order.{Row, value_cmp}
use Rattle.sqlite.specs.Edit.{is_taken}
use Rattle.sqlite.specs.Tree.{Trees, rowid, put_row}
use Rattle.mg_log.specs.Entry.{Entry}
use Rattle.mg_log.specs.Rows.{row_of, rows_from, stored, shown, Lists}

-- the numbers go on behind the first rows
pub rows_from-append : (k : ℕ) (xs ys : List Entry) → rows_from k (xs ++ ys) ≡ rows_from k xs ++ rows_from (k + length xs) ys
rows_from-append k [] ys = ap (λ n. rows_from n ys) (let e : k ≡ k + 0 = omega arith in e)
rows_from-append k (x ∷ xs) ys =
    ap (λ rows. row_of k x ∷ rows) (rows_from-append (k + 1) xs ys ∙ ap (λ n. rows_from (k + 1) xs ++ rows_from n ys) (let e : (k + 1) + length xs ≡ k + length (x ∷ xs) = omega arith in e))

-- a row whose rowid is free is one more among the rows
put_fresh : (new : Row) (rows : List Row) → is_taken rows new ≡ false → IsPermutation (new ∷ rows) (put_row new rows)
put_fresh new [] h = IsPermutation-refl _
put_fresh new (r ∷ rows) h = go (value_cmp (rowid r) (rowid new)) h (put_fresh new rows)
  where
    go : (o : Ordering) → (is_eq o || is_taken rows new) ≡ false → (is_taken rows new ≡ false → IsPermutation (new ∷ rows) (put_row new rows))
        → IsPermutation (new ∷ r ∷ rows) (match_ordering o (r ∷ put_row new rows) (new ∷ rows) (new ∷ r ∷ rows))
    go Less h more = IsPermutation-trans _ _ _ (IsPermutation-middle (new ∷ []) r rows) (IsPermutation-cons r _ _ (more h))
    go Equal h more = absurd (let e = h in cc)
    go Greater h more = IsPermutation-refl _

-- one more row with the next number is the next of the list
pub one_more : (before : List Entry) (e : Entry) (old new : Trees) → is_taken (old 0) (stored (length before) e) ≡ false → new 0 ≡ put_row (stored (length before) e) (old 0)
    → Lists before old → Lists (before ++ e ∷ []) new
one_more before e old new fresh is lists =
    let row = row_of (length before) e in
    let list : rows_from 0 (before ++ e ∷ []) ≡ rows_from 0 before ++ row ∷ [] =
    rows_from-append 0 before (e ∷ []) ∙ ap (λ n. rows_from 0 before ++ row_of n e ∷ []) (let s : 0 + length before ≡ length before = omega arith in s) in
    let put = IsPermutation-map shown _ _ (put_fresh (stored (length before) e) (old 0) fresh) in
    rw (list, is) (IsPermutation-trans _ _ _ (IsPermutation-to_front (rows_from 0 before) row) (IsPermutation-trans _ _ _ (IsPermutation-cons row _ _ lists) put))
