-- The order of rows in a direction is total, and ties only equal rows.
use Rattle.std.proofs.Common.{◌≡◌, List, [], ◌∷◌, ◌++◌, reverse, Ordering, Less, Equal, Greater, is_gt, false, refl, sym, ap, ◌∙◌}
use Rattle.std.specs.List.{AllByRecursion}
use Rattle.std.proofs.lemmas.List.Sorted.{IsPermutation-trans, IsPermutation-reverse}
use Rattle.std.proofs.lemmas.List.{reverse-append}
use Rattle.std.specs.Cmp.{IsTotalOrder}
use Rattle.std.specs.Ordering.{ordering_reverse}
use Rattle.mg_collate.specs.declared.direction.Direction.{Direction}
use Rattle.mg_collate.specs.declared.direction.Direction.TheVariants.{Asc, Desc}
use Rattle.mg_collate.specs.Row.{RowValue, row_value_order, row_value_order_total, directed_order}
use Rattle.mg_collate.specs.Sorted.{sorted_rows}
use Rattle.mg_collate.proofs.Sorting.{Rises, all_weaker, all_append, in_order, rises_sorted, permutation_sorted, one_in_order}
use Rattle.mg_collate.proofs.Ties.{same_rows}

was_equal : (o : Ordering) → ordering_reverse o ≡ Equal → o ≡ Equal
was_equal Less h = absurd cc
was_equal Equal h = refl
was_equal Greater h = absurd cc

reversed : {K : Type 0} (order : K → K → Ordering) → IsTotalOrder order → IsTotalOrder (λ x y. ordering_reverse (order x y))
reversed order o = record {
  antisymm = λ x y. ap ordering_reverse (o.antisymm x y);
  trans = λ x y z h k. sym (o.antisymm z x) ∙ o.trans z y x (o.antisymm z y ∙ k) (o.antisymm y x ∙ h);
  congr = λ x y z h. ap ordering_reverse (o.congr x y z (was_equal (order x y) h));
}

pub directed_total : (direction : Direction) → IsTotalOrder (directed_order direction)
directed_total Asc = row_value_order_total
directed_total Desc = reversed row_value_order row_value_order_total

pub directed_ties : (direction : Direction) (a b : RowValue) → directed_order direction a b ≡ Equal → a ≡ b
directed_ties Asc a b h = same_rows a b h
directed_ties Desc a b h = same_rows a b (was_equal (row_value_order a b) h)

-- ---- descending order is ascending order reversed

rises_append : (direction : Direction) (rows : List RowValue) (row : RowValue) → Rises (directed_order direction) rows → AllByRecursion (λ r. is_gt (directed_order direction r row) ≡ false) rows
    → Rises (directed_order direction) (rows ++ row ∷ [])
rises_append direction [] row h k = (tt, tt)
rises_append direction (r ∷ rows) row h k = (all_append (λ s. is_gt (directed_order direction r s) ≡ false) rows (row ∷ []) h.0 (k.0, tt), rises_append direction rows row h.1 k.1)

all_reversed : (P : RowValue → Type 0) (rows : List RowValue) → AllByRecursion P rows → AllByRecursion P (reverse rows)
all_reversed P [] h = tt
all_reversed P (row ∷ rows) h = rw (reverse-append (row ∷ []) rows) (all_append P (reverse rows) (row ∷ []) (all_reversed P rows h.1) (h.0, tt))

rises_reversed : (rows : List RowValue) → Rises (directed_order Asc) rows → Rises (directed_order Desc) (reverse rows)
rises_reversed [] h = tt
rises_reversed (row ∷ rows) h =
    let after = all_weaker (λ r. is_gt (row_value_order row r) ≡ false) (λ r. is_gt (ordering_reverse (row_value_order r row)) ≡ false) (λ r k. ap is_gt (sym (row_value_order_total.antisymm row r)) ∙ k) rows h.0 in
    rw (reverse-append (row ∷ []) rows) (rises_append Desc (reverse rows) row (rises_reversed rows h.1) (all_reversed (λ r. is_gt (directed_order Desc r row) ≡ false) rows after))

pub sorted_descending : (rows : List RowValue) → sorted_rows Desc rows ≡ reverse (sorted_rows Asc rows)
sorted_descending rows =
    sym (one_in_order (directed_order Desc) (directed_total Desc) (directed_ties Desc) rows (reverse (sorted_rows Asc rows))
    (IsPermutation-trans rows (sorted_rows Asc rows) (reverse (sorted_rows Asc rows)) (permutation_sorted (directed_order Asc) rows) (IsPermutation-reverse (sorted_rows Asc rows)))
    (in_order (directed_order Desc) (directed_total Desc) (reverse (sorted_rows Asc rows)) (rises_reversed (sorted_rows Asc rows) (rises_sorted (directed_order Asc) (directed_total Asc) rows))))
