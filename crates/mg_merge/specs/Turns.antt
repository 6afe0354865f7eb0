-- The order in which the heads of lists are taken.
use Rattle.std.specs.Prelude.{◌≡◌, refl}
use Rattle.std.proofs.Common.{ap, true≢false}
use Rattle.std.specs.Cmp.{IsTotalOrder, IsEquivalence, IsPartialEquivalence, IsPartialOrder, then_total, partial_equiv_from_equiv, partial_order_from_total}
use Rattle.std.specs.Ordering.{as_partial_cmp, eq_by_cmp, flip_args, is_gt, is_lt, nat_cmp, ordering_reverse, ordering_then}
use Rattle.std.specs.declared.cmp.Ordering.{Ordering}
use Rattle.std.specs.declared.cmp.Ordering.TheVariants.{Less, Equal, Greater}
use Rattle.std.proofs.lemmas.Cmp.{back_total, eq_by_cmp_equiv, nat_cmp_total, on_total}
use Rattle.mg_collate.specs.declared.direction.Direction.{Direction}
use Rattle.mg_collate.specs.declared.direction.Direction.TheVariants.{Asc, Desc}
use Rattle.mg_collate.specs.Row.{RowValue}
use Rattle.mg_collate.proofs.Directed.{directed_total}
use Rattle.mg_merge.specs.declared.head.Head.{Head}
use Rattle.mg_merge.specs.Merged.{order_by}

-- compares two directions, ascending first; two equal directions by the order in that direction
abbrev pub by_direction : Direction → Direction → (Direction → Ordering) → Ordering
by_direction Asc Asc order = order Asc
by_direction Asc Desc order = Less
by_direction Desc Asc order = Greater
by_direction Desc Desc order = order Desc

-- the order in which heads are taken: by direction, then by row in that direction, then by the number of the list
abbrev pub turn_order : {X : Type 0} → (X → RowValue) → Head X → Head X → Ordering
turn_order row a b = by_direction a.direction b.direction (λ direction. ordering_then (order_by row direction a.item b.item) (nat_cmp a.list b.list))

-- the order of heads in a heap, which gives the greatest first
abbrev pub head_order : {X : Type 0} → (X → RowValue) → Head X → Head X → Ordering
head_order row = flip_args (turn_order row)

-- ---- the order is total

-- the order of heads of one direction
one_direction : {X : Type 0} (row : X → RowValue) (direction : Direction) → IsTotalOrder (λ (a b : Head X). ordering_then (order_by row direction a.item b.item) (nat_cmp a.list b.list))
one_direction row direction = then_total (on_total (λ h. h.item) (on_total row (directed_total direction))) (on_total (λ h. h.list) nat_cmp_total)

turned : (d e : Direction) (f g : Direction → Ordering) → ((k : Direction) → f k ≡ ordering_reverse (g k)) → by_direction d e f ≡ ordering_reverse (by_direction e d g)
turned Asc Asc f g h = h Asc
turned Asc Desc f g h = refl
turned Desc Asc f g h = refl
turned Desc Desc f g h = h Desc

chained : (d e k : Direction) (f g i : Direction → Ordering) → ((m : Direction) → f m ≡ Less → g m ≡ Less → i m ≡ Less) → by_direction d e f ≡ Less → by_direction e k g ≡ Less → by_direction d k i ≡ Less
chained Asc Asc Asc f g i h p q = h Asc p q
chained Asc Asc Desc f g i h p q = refl
chained Asc Desc Asc f g i h p q = absurd (true≢false (ap is_gt q))
chained Asc Desc Desc f g i h p q = refl
chained Desc Asc k f g i h p q = absurd (true≢false (ap is_gt p))
chained Desc Desc Asc f g i h p q = absurd (true≢false (ap is_gt q))
chained Desc Desc Desc f g i h p q = h Desc p q

alike : (d e k : Direction) (f g i : Direction → Ordering) → ((m : Direction) → f m ≡ Equal → g m ≡ i m) → by_direction d e f ≡ Equal → by_direction d k g ≡ by_direction e k i
alike Asc Asc Asc f g i h p = h Asc p
alike Asc Asc Desc f g i h p = refl
alike Asc Desc k f g i h p = absurd (true≢false (ap is_lt p))
alike Desc Asc k f g i h p = absurd (true≢false (ap is_gt p))
alike Desc Desc Asc f g i h p = refl
alike Desc Desc Desc f g i h p = h Desc p

-- the order of turns is total
pub turn_total : {X : Type 0} (row : X → RowValue) → IsTotalOrder (turn_order row)
turn_total row = record {
  antisymm = λ a b. turned a.direction b.direction _ _ (λ d. (one_direction row d).antisymm a b);
  trans = λ a b c. chained a.direction b.direction c.direction _ _ _ (λ d. (one_direction row d).trans a b c);
  congr = λ a b c. alike a.direction b.direction c.direction _ _ _ (λ d. (one_direction row d).congr a b c);
}

-- ---- the laws that Rust's comparison traits require

-- the order in a heap is total
pub head_total : {X : Type 0} (row : X → RowValue) → IsTotalOrder (head_order row)
head_total row = back_total (turn_total row)

-- `==` of heads is an equivalence
pub head_equivalence : {X : Type 0} (row : X → RowValue) → IsEquivalence (eq_by_cmp (head_order row))
head_equivalence row = eq_by_cmp_equiv (head_total row)

-- the laws of `==`
pub head_eq_laws : {X : Type 0} (row : X → RowValue) → IsPartialEquivalence (eq_by_cmp (head_order row))
head_eq_laws row = partial_equiv_from_equiv (head_equivalence row)

-- the laws of `<`
pub head_partial_laws : {X : Type 0} (row : X → RowValue) → IsPartialOrder (eq_by_cmp (head_order row)) (as_partial_cmp (head_order row))
head_partial_laws row = partial_order_from_total (head_total row)
