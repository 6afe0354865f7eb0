-- A row is below a range exactly if it is before the low end, and above it exactly if it is after the high end.
use Rattle.std.proofs.Common.{◌≡◌, ℕ, Bool, true, false, not, ◌&&◌, List, [], ◌∷◌, Option, Some, None, Ordering, Less, Equal, Greater, refl, sym, ap, ◌∙◌, if◌then◌else◌}
use Rattle.std.proofs.lemmas.Bool.{false≢true}
use Rattle.std.specs.List.{find}
use Rattle.std.specs.Ordering.{is_gt, is_lt, ordering_reverse, ordering_then, match_ordering}
use Rattle.mg_value.specs.Value.{Value, Items, no_items, item, item_list}
use Rattle.mg_collate.specs.Order.{value_order, items_order}
use Rattle.mg_collate.proofs.Flat.{items_order-item, items_order-above, then_equal}
use Rattle.mg_collate.proofs.Ties.{value_order_total}
use Rattle.mg_range.proofs.Limits.{above, same_value}
use Rattle.mg_index.specs.Bound.{Bound, bounds_on, is_exact, meets_all}
use Rattle.mg_index.specs.Definition.{Steps}
use Rattle.mg_normal.specs.Atoms.{Atom}
use Rattle.mg_range.specs.SpanEnds.{IsUncrossed, end_values, high_edge, low_edge}
use Rattle.mg_range.specs.RangeSide.{admits, is_before, is_past}
use Rattle.mg_range.specs.Range.{Limit, Range, is_crossed, range_from, range_of, span_of, tightest, with_equal}
use Rattle.mg_collate.specs.declared.direction.Direction.TheVariants.{Asc, Desc}
use Rattle.mg_rows.specs.RowBound.{bound_order, edge_order, first_columns}
use Rattle.mg_rows.specs.declared.edge.Edge.{Edge}
use Rattle.mg_rows.specs.declared.edge.Edge.TheVariants.{Before, After}

-- ---- one value

-- an end whose first value has order o to that of a row, and the rest order p
fixed_low : (o p : Ordering) (edge : Edge) (b : Bool) → b ≡ is_gt (ordering_then p (edge_order edge))
    → match_ordering (ordering_reverse o) true b false ≡ is_gt (ordering_then (ordering_then o p) (edge_order edge))
fixed_low Less p edge b h = refl
fixed_low Equal p edge b h = h
fixed_low Greater p edge b h = refl

fixed_high : (o p : Ordering) (edge : Edge) (b : Bool) → b ≡ is_lt (ordering_then p (edge_order edge))
    → match_ordering (ordering_reverse o) false b true ≡ is_lt (ordering_then (ordering_then o p) (edge_order edge))
fixed_high Less p edge b h = refl
fixed_high Equal p edge b h = h
fixed_high Greater p edge b h = refl

-- a limit whose value has order o to that of a row
limit_low : (inclusive : Bool) (o : Ordering) → not (admits inclusive (ordering_reverse o)) ≡ is_gt (ordering_then o (edge_order (if inclusive then Before else After)))
limit_low true Less = refl
limit_low true Equal = refl
limit_low true Greater = refl
limit_low false Less = refl
limit_low false Equal = refl
limit_low false Greater = refl

limit_high : (inclusive : Bool) (o : Ordering)
    → not (admits inclusive (ordering_reverse (ordering_reverse o))) ≡ is_lt (ordering_then o (edge_order (if inclusive then After else Before)))
limit_high true Less = refl
limit_high true Equal = refl
limit_high true Greater = refl
limit_high false Less = refl
limit_high false Equal = refl
limit_high false Greater = refl

-- lists of one value are in the order of their values
alone : (v w : Value) → items_order (item v no_items) (item w no_items) ≡ value_order v w
alone v w = items_order-item v w no_items no_items ∙ then_equal (value_order v w)

-- ---- the ends

pub before_low : (equal : List Value) (lower : Option Limit) (key : Items) (id : List ℕ)
    → is_before equal lower (item_list key) ≡ is_gt (bound_order (low_edge lower) (end_values equal lower) (key, id))
before_low [] None key id = refl
before_low [] (Some l) no_items id = ap (λ o. is_gt (ordering_then o (edge_order (low_edge (Some l))))) (sym (items_order-above l.value no_items))
before_low [] (Some l) (item v vs) id =
    let edge = low_edge (Some l) in
    ap (λ o. not (admits l.inclusive o)) (value_order_total.antisymm v l.value)
    ∙ limit_low l.inclusive (value_order l.value v) ∙ ap (λ o. is_gt (ordering_then o (edge_order edge))) (sym (alone l.value v))
before_low (e ∷ es) lower no_items id = ap (λ o. is_gt (ordering_then o (edge_order (low_edge lower)))) (sym (items_order-above e (end_values es lower)))
before_low (e ∷ es) lower (item v vs) id =
    let ends = end_values es lower in
    let edge = low_edge lower in
    ap (λ o. match_ordering o true (is_before es lower (item_list vs)) false) (value_order_total.antisymm v e)
    ∙ fixed_low (value_order e v) (items_order ends (first_columns ends vs)) edge (is_before es lower (item_list vs)) (before_low es lower vs id)
    ∙ ap (λ o. is_gt (ordering_then o (edge_order edge))) (sym (items_order-item e v ends (first_columns ends vs)))

pub past_high : (equal : List Value) (upper : Option Limit) (key : Items) (id : List ℕ)
    → is_past equal upper (item_list key) ≡ is_lt (bound_order (high_edge upper) (end_values equal upper) (key, id))
past_high [] None key id = refl
past_high [] (Some u) no_items id = ap (λ o. is_lt (ordering_then o (edge_order (high_edge (Some u))))) (sym (items_order-above u.value no_items))
past_high [] (Some u) (item v vs) id =
    let edge = high_edge (Some u) in
    ap (λ o. not (admits u.inclusive (ordering_reverse o))) (value_order_total.antisymm v u.value)
    ∙ limit_high u.inclusive (value_order u.value v) ∙ ap (λ o. is_lt (ordering_then o (edge_order edge))) (sym (alone u.value v))
past_high (e ∷ es) upper no_items id = ap (λ o. is_lt (ordering_then o (edge_order (high_edge upper)))) (sym (items_order-above e (end_values es upper)))
past_high (e ∷ es) upper (item v vs) id =
    let ends = end_values es upper in
    let edge = high_edge upper in
    ap (λ o. match_ordering o false (is_past es upper (item_list vs)) true) (value_order_total.antisymm v e)
    ∙ fixed_high (value_order e v) (items_order ends (first_columns ends vs)) edge (is_past es upper (item_list vs)) (past_high es upper vs id)
    ∙ ap (λ o. is_lt (ordering_then o (edge_order edge))) (sym (items_order-item e v ends (first_columns ends vs)))

-- ---- a row past the range is not before it, since its limits do not cross

not_below : (inclusive : Bool) (o : Ordering) → not (admits inclusive (ordering_reverse o)) ≡ true → o ≡ Less → ⊥
not_below true o h e = false≢true (sym (ap (λ p. not (admits true (ordering_reverse p))) e) ∙ h)
not_below false o h e = false≢true (sym (ap (λ p. not (admits false (ordering_reverse p))) e) ∙ h)

not_past_above : (inclusive : Bool) → not (admits inclusive Greater) ≡ false
not_past_above true = refl
not_past_above false = refl

-- what is not at or below an inclusive limit is above it
only_above : (o : Ordering) → not (admits true (ordering_reverse o)) ≡ true → o ≡ Greater
only_above Less h = absurd (false≢true h)
only_above Equal h = absurd (false≢true h)
only_above Greater h = refl

both_true : (a b : Bool) → not (a && b) ≡ false → (a ≡ true) × (b ≡ true)
both_true true true h = (refl, refl)
both_true true false h = absurd (false≢true (sym h))
both_true false b h = absurd (false≢true (sym h))

between_limits : (l u : Limit) (v : Value) (o : Ordering) → value_order l.value u.value ≡ o → match_ordering o false (not (l.inclusive && u.inclusive)) true ≡ false
    → not (admits u.inclusive (ordering_reverse (value_order v u.value))) ≡ true → not (admits l.inclusive (value_order v l.value)) ≡ false
between_limits l u v Less e h k =
    ap (λ o. not (admits l.inclusive o)) (above value_order_total v l.value u.value e (not_below u.inclusive (value_order v u.value) k)) ∙ not_past_above l.inclusive
between_limits l u v Equal e h k =
    let both = both_true l.inclusive u.inclusive h in
    let over : value_order v u.value ≡ Greater = only_above (value_order v u.value) (ap (λ i. not (admits i (ordering_reverse (value_order v u.value)))) (sym both.1) ∙ k) in
    ap (λ o. not (admits l.inclusive o)) (ap (value_order v) (same_value Asc l.value u.value e) ∙ over) ∙ not_past_above l.inclusive
between_limits l u v Greater e h k = absurd (false≢true (sym h))

-- at a fixed value
fixed_apart : (o : Ordering) (a b : Bool) → (b ≡ true → a ≡ false) → match_ordering o false b true ≡ true → match_ordering o true a false ≡ false
fixed_apart Less a b f h = absurd (false≢true h)
fixed_apart Equal a b f h = f h
fixed_apart Greater a b f h = refl

pub past_apart : (equal : List Value) (lower upper : Option Limit) (key : List Value) → is_crossed lower upper ≡ false → is_past equal upper key ≡ true → is_before equal lower key ≡ false
past_apart [] None upper key h k = refl
past_apart [] (Some l) None key h k = absurd (false≢true k)
past_apart [] (Some l) (Some u) [] h k = absurd (false≢true k)
past_apart [] (Some l) (Some u) (v ∷ vs) h k = between_limits l u v (value_order l.value u.value) refl h k
past_apart (e ∷ es) lower upper [] h k = absurd (false≢true k)
past_apart (e ∷ es) lower upper (v ∷ vs) h k =
    fixed_apart (value_order v e) (is_before es lower vs) (is_past es upper vs) (past_apart es lower upper vs h) k

-- ---- the ranges of queries do not cross

uncrossed_at : (lower upper : Option Limit) (b : Bool) → is_crossed lower upper ≡ b → IsUncrossed (if b then None else Some (span_of [] lower upper))
uncrossed_at lower upper true e = tt
uncrossed_at lower upper false e = e

uncrossed_equal : (v : Value) (range : Range) → IsUncrossed range → IsUncrossed (with_equal v range)
uncrossed_equal v None h = tt
uncrossed_equal v (Some s) h = h

uncrossed_if : (b : Bool) (range : Range) → IsUncrossed range → IsUncrossed (if b then range else None)
uncrossed_if true range h = h
uncrossed_if false range h = tt

uncrossed_from : (bounds : List Bound) (fixed : Option Bound) (rest : Range) → IsUncrossed rest → IsUncrossed (range_from bounds fixed rest)
uncrossed_from bounds (Some fixed) rest h = uncrossed_if (meets_all fixed.value bounds) (with_equal fixed.value rest) (uncrossed_equal fixed.value rest h)
uncrossed_from bounds None rest h =
    let lower = tightest Asc bounds in
    let upper = tightest Desc bounds in
    uncrossed_at lower upper (is_crossed lower upper) refl

pub range_uncrossed : (atoms : List Atom) (columns : List Steps) → IsUncrossed (range_of atoms columns)
range_uncrossed atoms [] = refl
range_uncrossed atoms (c ∷ cs) = uncrossed_from (bounds_on atoms c) (find is_exact (bounds_on atoms c)) (range_of atoms cs) (range_uncrossed atoms cs)
