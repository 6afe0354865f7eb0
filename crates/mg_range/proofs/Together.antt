-- Among keys in order, those before a range come first, then those in it, then those past it.
use Rattle.std.proofs.Common.{◌≡◌, ℕ, ◌≤◌, Bool, true, false, cond, not, List, [], ◌∷◌, Option, Some, None, Ordering, Less, Equal, Greater, refl, sym, ap, ◌∙◌, arith}
use Rattle.std.proofs.lemmas.Bool.{false≢true}
use Rattle.std.proofs.lemmas.Cmp.{alike_right, upto}
use Rattle.std.specs.Cmp.{IsTotalOrder}
use Rattle.std.specs.Ordering.{nat_cmp, is_gt, is_le, ordering_reverse, ordering_then, match_ordering}
use Rattle.std.specs.Cmp.Lexicographic.{slice_cmp}
use Rattle.mg_value.specs.Value.{Value}
use Rattle.mg_value.specs.View.{items_of}
use Rattle.mg_collate.specs.Order.{value_order, items_order}
use Rattle.mg_collate.specs.Row.{row_value_order}
use Rattle.mg_collate.specs.declared.direction.Direction.{Direction}
use Rattle.mg_collate.specs.declared.direction.Direction.TheVariants.{Asc, Desc}
use Rattle.mg_collate.proofs.Flat.{items_order-item, items_order-above}
use Rattle.mg_collate.proofs.Ties.{value_order_total}
use Rattle.mg_range.proofs.Limits.{order_from_total}
use Rattle.mg_range.specs.RangeSide.{admits, is_within, is_before, is_past, side_of, side_rank}
use Rattle.mg_range.specs.Range.{Limit, Range, order_from}
use Rattle.mg_range.specs.declared.side.RangeSide.TheVariants.{Before, Within, Past}

not_gt : (o : Ordering) → is_le o ≡ true → is_gt o ≡ false
not_gt Less h = refl
not_gt Equal h = refl
not_gt Greater h = absurd (false≢true h)

gt_is : (o : Ordering) → (is_gt o ≡ false → ⊥) → o ≡ Greater
gt_is Less h = absurd (h refl)
gt_is Equal h = absurd (h refl)
gt_is Greater h = refl

-- if v is above x, and not above w, then w is above x
above_too : {R : Value → Value → Ordering} (o : IsTotalOrder R) (v w x : Value) → is_gt (R v w) ≡ false → R v x ≡ Greater → R w x ≡ Greater
above_too {R} o v w x h g = gt_is (R w x) (λ k. false≢true (sym (upto o v w x h k) ∙ ap is_gt g))

-- ---- if a value is within a lower limit, so is each value that is not below it

admits_reversed : (i : Bool) (o : Ordering) → is_gt o ≡ false → admits i Equal ≡ true → admits i (ordering_reverse o) ≡ true
admits_reversed true Less h k = refl
admits_reversed false Less h k = refl
admits_reversed i Equal h k = k
admits_reversed i Greater h k = absurd (false≢true (sym h))

admits_less : (i : Bool) → admits i Less ≡ true → ⊥
admits_less true h = false≢true h
admits_less false h = false≢true h

admits_greater : (i : Bool) → admits i Greater ≡ true
admits_greater true = refl
admits_greater false = refl

rises_at : (direction : Direction) (l : Limit) (v w : Value) → is_gt (order_from direction v w) ≡ false → (o : Ordering) → order_from direction v l.value ≡ o → admits l.inclusive o ≡ true → is_within direction l w ≡ true
rises_at direction l v w h Less e k = absurd (admits_less l.inclusive k)
rises_at direction l v w h Equal e k =
    let t = order_from_total direction in
    ap (admits l.inclusive) (sym (alike_right t v l.value w e) ∙ t.antisymm w v) ∙ admits_reversed l.inclusive (order_from direction v w) h k
rises_at direction l v w h Greater e k = ap (admits l.inclusive) (above_too (order_from_total direction) v w l.value h e) ∙ admits_greater l.inclusive

rises : (direction : Direction) (l : Limit) (v w : Value) → is_gt (order_from direction v w) ≡ false → is_within direction l v ≡ true → is_within direction l w ≡ true
rises direction l v w h k = rises_at direction l v w h (order_from direction v l.value) refl k

contrapositive : (a b : Bool) → (a ≡ true → b ≡ true) → not b ≡ true → not a ≡ true
contrapositive true b f h = sym (ap not (f refl)) ∙ h
contrapositive false b f h = refl

-- ---- the first values of two keys in order

first_not_above : (o p : Ordering) → is_le (ordering_then o p) ≡ true → is_gt o ≡ false
first_not_above Less p h = refl
first_not_above Equal p h = refl
first_not_above Greater p h = absurd (false≢true h)

abbrev NotAfter : List Value → List Value → Type 0
NotAfter a b = is_le (items_order (items_of a) (items_of b)) ≡ true

firsts : (v w : Value) (vs ws : List Value) → NotAfter (v ∷ vs) (w ∷ ws) → is_le (ordering_then (value_order v w) (items_order (items_of vs) (items_of ws))) ≡ true
firsts v w vs ws h = ap is_le (sym (items_order-item v w (items_of vs) (items_of ws))) ∙ h

not_after_end : (v : Value) (vs : List Value) → NotAfter (v ∷ vs) [] → ⊥
not_after_end v vs h = false≢true (ap is_le (sym (items_order-above v (items_of vs))) ∙ h)

back_not_above : (v w : Value) → is_gt (value_order v w) ≡ false → is_gt (order_from Desc w v) ≡ false
back_not_above v w h = ap is_gt (sym (value_order_total.antisymm v w)) ∙ h

not_above : (v w : Value) (vs ws : List Value) → NotAfter (v ∷ vs) (w ∷ ws) → is_gt (value_order v w) ≡ false
not_above v w vs ws h = first_not_above (value_order v w) (items_order (items_of vs) (items_of ws)) (firsts v w vs ws h)

last_not_after : (o p : Ordering) → o ≡ Equal → is_le (ordering_then o p) ≡ true → is_le p ≡ true
last_not_after o p e h = ap (λ x. is_le (ordering_then x p)) (sym e) ∙ h

-- if the first values of two keys in order both equal a third value, the rests of the keys are in order
behind : (v w e : Value) (vs ws : List Value) → NotAfter (v ∷ vs) (w ∷ ws) → value_order v e ≡ Equal → value_order w e ≡ Equal → NotAfter vs ws
behind v w e vs ws h p q = last_not_after (value_order v w) (items_order (items_of vs) (items_of ws)) (alike_right value_order_total w e v q ∙ p) (firsts v w vs ws h)

below_too : (v w e : Value) → is_gt (value_order v w) ≡ false → value_order w e ≡ Less → value_order v e ≡ Less
below_too v w e f q =
    let t = value_order_total in
    let above_e = t.antisymm e w ∙ ap ordering_reverse q in
    t.antisymm v e ∙ ap ordering_reverse (gt_is (value_order e v) (λ k. false≢true (sym (upto t e v w k f) ∙ ap is_gt above_e)))

-- ---- the low end

-- one step along the fixed values: the first key's value has order o to the fixed one, the second key's has order p
falls : (o p : Ordering) (a b : Bool) → (o ≡ Greater → p ≡ Greater) → (p ≡ Less → o ≡ Less) → (o ≡ Equal → p ≡ Equal → b ≡ true → a ≡ true)
    → match_ordering p true b false ≡ true → match_ordering o true a false ≡ true
falls Less p a b f g h k = refl
falls Equal Less a b f g h k = absurd (cc (g refl))
falls Equal Equal a b f g h k = h refl refl k
falls Equal Greater a b f g h k = absurd (false≢true k)
falls Greater p a b f g h k = absurd (false≢true (ap (λ q. match_ordering q true b false) (sym (f refl)) ∙ k))

before_falls : (es : List Value) (lower : Option Limit) (a b : List Value) → NotAfter a b → is_before es lower b ≡ true → is_before es lower a ≡ true
before_falls [] None a b h k = k
before_falls [] (Some l) [] b h k = refl
before_falls [] (Some l) (v ∷ vs) [] h k = absurd (not_after_end v vs h)
before_falls [] (Some l) (v ∷ vs) (w ∷ ws) h k = contrapositive (is_within Asc l v) (is_within Asc l w) (rises Asc l v w (not_above v w vs ws h)) k
before_falls (e ∷ es) lower [] b h k = refl
before_falls (e ∷ es) lower (v ∷ vs) [] h k = absurd (not_after_end v vs h)
before_falls (e ∷ es) lower (v ∷ vs) (w ∷ ws) h k =
    let f = not_above v w vs ws h in
    falls (value_order v e) (value_order w e) (is_before es lower vs) (is_before es lower ws) (above_too value_order_total v w e f) (below_too v w e f)
    (λ p q. before_falls es lower vs ws (behind v w e vs ws h p q)) k

-- ---- the high end

climbs : (o p : Ordering) (a b : Bool) → (o ≡ Greater → p ≡ Greater) → (p ≡ Less → o ≡ Less) → (o ≡ Equal → p ≡ Equal → a ≡ true → b ≡ true)
    → match_ordering o false a true ≡ true → match_ordering p false b true ≡ true
climbs Less p a b f g h k = absurd (false≢true k)
climbs Equal Less a b f g h k = absurd (cc (g refl))
climbs Equal Equal a b f g h k = h refl refl k
climbs Equal Greater a b f g h k = refl
climbs Greater p a b f g h k = ap (λ q. match_ordering q false b true) (f refl)

past_rises : (es : List Value) (upper : Option Limit) (a b : List Value) → NotAfter a b → is_past es upper a ≡ true → is_past es upper b ≡ true
past_rises [] None a b h k = absurd (false≢true k)
past_rises [] (Some u) [] b h k = absurd (false≢true k)
past_rises [] (Some u) (v ∷ vs) [] h k = absurd (not_after_end v vs h)
past_rises [] (Some u) (v ∷ vs) (w ∷ ws) h k = contrapositive (is_within Desc u w) (is_within Desc u v) (rises Desc u w v (back_not_above v w (not_above v w vs ws h))) k
past_rises (e ∷ es) upper [] b h k = absurd (false≢true k)
past_rises (e ∷ es) upper (v ∷ vs) [] h k = absurd (not_after_end v vs h)
past_rises (e ∷ es) upper (v ∷ vs) (w ∷ ws) h k =
    let f = not_above v w vs ws h in
    climbs (value_order v e) (value_order w e) (is_past es upper vs) (is_past es upper ws) (above_too value_order_total v w e f) (below_too v w e f)
    (λ p q. past_rises es upper vs ws (behind v w e vs ws h p q)) k

-- ---- the sides of two keys in order

ranks : (a p b q : Bool) → (b ≡ true → a ≡ true) → (p ≡ true → q ≡ true) → side_rank (cond a Before (cond p Past Within)) ≤ side_rank (cond b Before (cond q Past Within))
ranks true p b q f g = omega arith
ranks false p true q f g = absurd (false≢true (f refl))
ranks false true false true f g = omega arith
ranks false true false false f g = absurd (false≢true (g refl))
ranks false false false true f g = omega arith
ranks false false false false f g = omega arith

pub together : (range : Range) (a b : List Value) → NotAfter a b → side_rank (side_of range a) ≤ side_rank (side_of range b)
together None a b h = omega arith
together (Some s) a b h =
    ranks (is_before s.equal s.lower a) (is_past s.equal s.upper a) (is_before s.equal s.lower b) (is_past s.equal s.upper b) (before_falls s.equal s.lower a b h) (past_rises s.equal s.upper a b h)

first_not_after : (o p : Ordering) → is_le (ordering_then o p) ≡ true → is_le o ≡ true
first_not_after Less p h = refl
first_not_after Equal p h = refl
first_not_after Greater p h = h

pub rows_together : (range : Range) (a b : List Value) (i j : List ℕ) → is_le (row_value_order (items_of a, i) (items_of b, j)) ≡ true
    → side_rank (side_of range a) ≤ side_rank (side_of range b)
rows_together range a b i j h = together range a b (first_not_after (items_order (items_of a) (items_of b)) (slice_cmp nat_cmp i j) h)
