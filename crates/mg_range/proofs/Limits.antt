-- Limits on values: a value is within the tightest limits of bounds exactly if it meets each bound.
use Rattle.std.proofs.Common.{◌≡◌, Bool, true, false, cond, ◌&&◌, List, [], ◌∷◌, Option, Some, None, Ordering, Less, Equal, Greater, refl, sym, ap, ap₂, ◌∙◌}
use Rattle.std.proofs.lemmas.Cmp.{back_total, on_total}
use Rattle.std.specs.Cmp.{IsTotalOrder, bool_cmp_total, then_total}
use Rattle.std.specs.List.{list_all, filter_map, cons_option, fold}
use Rattle.std.specs.Ordering.{bool_cmp, is_lt, is_le, is_eq, is_ge, is_gt, ordering_reverse, ordering_then, match_ordering}
use Rattle.mg_value.specs.Value.{Value}
use Rattle.mg_collate.specs.Order.{value_order}
use Rattle.mg_collate.specs.declared.direction.Direction.{Direction}
use Rattle.mg_collate.specs.declared.direction.Direction.TheVariants.{Asc, Desc}
use Rattle.mg_collate.proofs.Ties.{value_order_total, value_tie}
use Rattle.mg_index.proofs.Best.{lesser_first}
use Rattle.mg_index.specs.Bound.{Bound, meets_all, allows}
use Rattle.mg_index.specs.Choice.{least, lesser}
use Rattle.mg_index.specs.declared.bound.Comparison.{Comparison}
use Rattle.mg_index.specs.declared.bound.Comparison.TheVariants.{Below, AtMost, Exactly, AtLeast, Above}
use Rattle.mg_range.specs.RangeSide.{admits, is_within}
use Rattle.mg_range.specs.LentLimit.{tightened, tighter}
use Rattle.mg_range.specs.Range.{Limit, limit_at, order_from, limit_by, limit_of, tightest, tightness}

-- ---- tests

pub and_false : (a : Bool) → false ≡ (a && false)
and_false true = refl
and_false false = refl

pub and_true : (a : Bool) → a ≡ (a && true)
and_true true = refl
and_true false = refl

and_swap : (a b : Bool) → (a && b) ≡ (b && a)
and_swap true b = and_true b
and_swap false b = and_false b

and_assoc : (a b c : Bool) → ((a && b) && c) ≡ (a && (b && c))
and_assoc true b c = refl
and_assoc false b c = refl

pub and_swap_inner : (a d s t : Bool) → ((a && d) && (s && t)) ≡ ((a && s) && (d && t))
and_swap_inner true true s t = refl
and_swap_inner true false s t = and_false s
and_swap_inner false d s t = refl

-- ---- the order of values from below and from above

was_equal : (o : Ordering) → ordering_reverse o ≡ Equal → o ≡ Equal
was_equal Less h = absurd cc
was_equal Equal h = refl
was_equal Greater h = absurd cc

reversed : {K : Type 0} (order : K → K → Ordering) → IsTotalOrder order → IsTotalOrder (λ x y. ordering_reverse (order x y))
reversed order o = record {
  antisymm = λ x y. ap ordering_reverse (o.antisymm x y);
  trans = λ x y z h k. sym (o.antisymm z x) ∙ o.trans z y x (o.antisymm z y ∙ k) (o.antisymm y x ∙ h);
  congr = λ x y z h. ap ordering_reverse (o.congr x y z (was_equal (order x y) h));
}

pub order_from_total : (direction : Direction) → IsTotalOrder (order_from direction)
order_from_total Asc = value_order_total
order_from_total Desc = reversed value_order value_order_total

pub same_value : (direction : Direction) (a b : Value) → order_from direction a b ≡ Equal → a ≡ b
same_value Asc a b h = (value_tie a b).0 h
same_value Desc a b h = (value_tie a b).0 (was_equal (value_order a b) h)

-- if a is below b, what is not below b is above a
above_at : {R : Value → Value → Ordering} (o : IsTotalOrder R) (v a b : Value) → R a b ≡ Less → (p : Ordering) → R v b ≡ p → (p ≡ Less → ⊥) → R v a ≡ Greater
above_at o v a b h Less e not_less = absurd (not_less refl)
above_at o v a b h Equal e not_less = o.congr v b a e ∙ o.antisymm b a ∙ ap ordering_reverse h
above_at o v a b h Greater e not_less = o.antisymm v a ∙ ap ordering_reverse (o.trans a b v h (o.antisymm b v ∙ ap ordering_reverse e))

pub above : {R : Value → Value → Ordering} (o : IsTotalOrder R) (v a b : Value) → R a b ≡ Less → (R v b ≡ Less → ⊥) → R v a ≡ Greater
above {R} o v a b h not_less = above_at o v a b h (R v b) refl not_less

-- ---- the tighter of two limits

absorbed : (i j : Bool) (x y : Ordering) → ((y ≡ Less → ⊥) → x ≡ Greater) → admits j y ≡ (admits i x && admits j y)
absorbed i true x Less h = and_false (admits i x)
absorbed i false x Less h = and_false (admits i x)
absorbed true j x Equal h = ap (λ o. admits true o && admits j Equal) (sym (h (λ e. cc)))
absorbed false j x Equal h = ap (λ o. admits false o && admits j Equal) (sym (h (λ e. cc)))
absorbed true j x Greater h = ap (λ o. admits true o && admits j Greater) (sym (h (λ e. cc)))
absorbed false j x Greater h = ap (λ o. admits false o && admits j Greater) (sym (h (λ e. cc)))

inclusive_weaker : (j : Bool) (x : Ordering) → admits j x ≡ (admits true x && admits j x)
inclusive_weaker true Less = refl
inclusive_weaker true Equal = refl
inclusive_weaker true Greater = refl
inclusive_weaker false Less = refl
inclusive_weaker false Equal = refl
inclusive_weaker false Greater = refl

exclusive_tighter : (j : Bool) (x : Ordering) → admits false x ≡ (admits false x && admits j x)
exclusive_tighter true Less = refl
exclusive_tighter true Equal = refl
exclusive_tighter true Greater = refl
exclusive_tighter false Less = refl
exclusive_tighter false Equal = refl
exclusive_tighter false Greater = refl

tied : (direction : Direction) (a b : Limit) (v : Value) → a.value ≡ b.value → (i : Bool) → a.inclusive ≡ i → is_within direction (cond i b a) v ≡ (is_within direction a v && is_within direction b v)
tied direction a b v e true f =
    inclusive_weaker b.inclusive (order_from direction v b.value)
    ∙ ap₂ (λ i w. admits i (order_from direction v w) && is_within direction b v) (sym f) (sym e)
tied direction a b v e false f =
    ap (λ i. admits i (order_from direction v a.value)) f ∙ exclusive_tighter b.inclusive (order_from direction v a.value)
    ∙ ap₂ (λ i w. admits i (order_from direction v a.value) && admits b.inclusive (order_from direction v w)) (sym f) e

at_order : (direction : Direction) (a b : Limit) (v : Value) (o : Ordering) → order_from direction a.value b.value ≡ o
    → is_within direction (match_ordering o b (cond a.inclusive b a) a) v ≡ (is_within direction a v && is_within direction b v)
at_order direction a b v Less e =
    absorbed a.inclusive b.inclusive (order_from direction v a.value) (order_from direction v b.value) (above (order_from_total direction) v a.value b.value e)
at_order direction a b v Equal e = tied direction a b v (same_value direction a.value b.value e) a.inclusive refl
at_order direction a b v Greater e =
    let less = (order_from_total direction).antisymm b.value a.value ∙ ap ordering_reverse e in
    absorbed b.inclusive a.inclusive (order_from direction v b.value) (order_from direction v a.value) (above (order_from_total direction) v b.value a.value less)
    ∙ and_swap (is_within direction b v) (is_within direction a v)

pub within_tighter : (direction : Direction) (a b : Limit) (v : Value) → is_within direction (tighter direction a b) v ≡ (is_within direction a v && is_within direction b v)
within_tighter direction a b v = at_order direction a b v (order_from direction a.value b.value) refl

-- ---- the tightest of several

-- the value is within the limit, if there is one
abbrev pub is_within_some : Direction → Option Limit → Value → Bool
is_within_some direction None v = true
is_within_some direction (Some l) v = is_within direction l v

within_tightened : (direction : Direction) (best : Option Limit) (l : Limit) (v : Value)
    → is_within_some direction (tightened direction best l) v ≡ (is_within_some direction best v && is_within direction l v)
within_tightened direction None l v = refl
within_tightened direction (Some a) l v = within_tighter direction a l v

within_fold : (direction : Direction) (ls : List Limit) (best : Option Limit) (v : Value)
    → is_within_some direction (fold (tightened direction) best ls) v ≡ (is_within_some direction best v && list_all (λ l. is_within direction l v) ls)
within_fold direction [] best v = and_true (is_within_some direction best v)
within_fold direction (l ∷ ls) best v =
    within_fold direction ls (tightened direction best l) v
    ∙ ap (λ b. b && list_all (λ l. is_within direction l v) ls) (within_tightened direction best l v)
    ∙ and_assoc (is_within_some direction best v) (is_within direction l v) (list_all (λ l. is_within direction l v) ls)

one_more : (direction : Direction) (v : Value) (o : Option Limit) (ls : List Limit)
    → list_all (λ l. is_within direction l v) (cons_option o ls) ≡ (is_within_some direction o v && list_all (λ l. is_within direction l v) ls)
one_more direction v None ls = refl
one_more direction v (Some l) ls = refl

abbrev limit_admits : Direction → Value → Bound → Bool
limit_admits direction v b = is_within_some direction (limit_of direction b) v

within_limits : (direction : Direction) (v : Value) (bounds : List Bound) → list_all (λ l. is_within direction l v) (filter_map (limit_of direction) bounds) ≡ list_all (limit_admits direction v) bounds
within_limits direction v [] = refl
within_limits direction v (b ∷ bounds) =
    one_more direction v (limit_of direction b) (filter_map (limit_of direction) bounds) ∙ ap (λ c. limit_admits direction v b && c) (within_limits direction v bounds)

-- ---- the tightest, found from the first to the last

pub tightness_total : (direction : Direction) → IsTotalOrder (tightness direction)
tightness_total direction =
    then_total (back_total (on_total (λ (l : Limit). l.value) (order_from_total direction))) (on_total (λ (l : Limit). l.inclusive) bool_cmp_total)

same_limit : (a b : Limit) → a.value ≡ b.value → a.inclusive ≡ b.inclusive → a ≡ b
same_limit a b e f = ap₂ limit_at e f

-- of two limits with the same value, the lesser is the second one if the first is inclusive
lesser_tie : (a b : Limit) → a.value ≡ b.value → (i j : Bool) → a.inclusive ≡ i → b.inclusive ≡ j → cond (is_gt (bool_cmp i j)) b a ≡ cond i b a
lesser_tie a b e true true f g = same_limit a b e (f ∙ sym g)
lesser_tie a b e true false f g = refl
lesser_tie a b e false true f g = refl
lesser_tie a b e false false f g = refl

lesser_at : (direction : Direction) (a b : Limit) (o p : Ordering) → order_from direction a.value b.value ≡ o → p ≡ ordering_reverse o
    → cond (is_gt (ordering_then p (bool_cmp a.inclusive b.inclusive))) b a ≡ match_ordering o b (cond a.inclusive b a) a
lesser_at direction a b Less p e f = ap (λ q. cond (is_gt (ordering_then q (bool_cmp a.inclusive b.inclusive))) b a) f
lesser_at direction a b Equal p e f =
    ap (λ q. cond (is_gt (ordering_then q (bool_cmp a.inclusive b.inclusive))) b a) f
    ∙ lesser_tie a b (same_value direction a.value b.value e) a.inclusive b.inclusive refl refl
lesser_at direction a b Greater p e f = ap (λ q. cond (is_gt (ordering_then q (bool_cmp a.inclusive b.inclusive))) b a) f

-- the tighter of two limits is the lesser
lesser_is : (direction : Direction) (a b : Limit) → lesser (tightness direction) a (Some b) ≡ tighter direction a b
lesser_is direction a b = lesser_at direction a b (order_from direction a.value b.value) (order_from direction b.value a.value) refl ((order_from_total direction).antisymm b.value a.value)

fold_least : (direction : Direction) (a : Limit) (ls : List Limit) → fold (tightened direction) (Some a) ls ≡ Some (lesser (tightness direction) a (least (tightness direction) ls))
fold_least direction a [] = refl
fold_least direction a (b ∷ ls) =
    let rest = least (tightness direction) ls in
    fold_least direction (tighter direction a b) ls
    ∙ ap (λ x. Some (lesser (tightness direction) x rest)) (sym (lesser_is direction a b))
    ∙ ap Some (sym (lesser_first (tightness_total direction) a b rest))

pub tightest_is : (direction : Direction) (bounds : List Bound) → tightest direction bounds ≡ fold (tightened direction) None (filter_map (limit_of direction) bounds)
tightest_is direction bounds = from (filter_map (limit_of direction) bounds)
  where
    from : (ls : List Limit) → least (tightness direction) ls ≡ fold (tightened direction) None ls
    from [] = refl
    from (l ∷ ls) = sym (fold_least direction l ls)

within_tightest : (direction : Direction) (v : Value) (bounds : List Bound) → is_within_some direction (tightest direction bounds) v ≡ list_all (limit_admits direction v) bounds
within_tightest direction v bounds =
    ap (λ o. is_within_some direction o v) (tightest_is direction bounds)
    ∙ within_fold direction (filter_map (limit_of direction) bounds) None v ∙ within_limits direction v bounds

-- ---- a bound is a limit from below, from above, or both

below_is : (o : Ordering) → is_lt o ≡ is_gt (ordering_reverse o)
below_is Less = refl
below_is Equal = refl
below_is Greater = refl

at_most_is : (o : Ordering) → is_le o ≡ is_ge (ordering_reverse o)
at_most_is Less = refl
at_most_is Equal = refl
at_most_is Greater = refl

exactly_is : (o : Ordering) → is_eq o ≡ (is_ge o && is_ge (ordering_reverse o))
exactly_is Less = refl
exactly_is Equal = refl
exactly_is Greater = refl

by_comparison : (k : Comparison) (v w : Value) → allows k (value_order v w) ≡ (is_within_some Asc (limit_by Asc k w) v && is_within_some Desc (limit_by Desc k w) v)
by_comparison Below v w = below_is (value_order v w)
by_comparison AtMost v w = at_most_is (value_order v w)
by_comparison Exactly v w = exactly_is (value_order v w)
by_comparison AtLeast v w = and_true (is_ge (value_order v w))
by_comparison Above v w = and_true (is_gt (value_order v w))

both_sides : (v : Value) (bounds : List Bound) → meets_all v bounds ≡ (list_all (limit_admits Asc v) bounds && list_all (limit_admits Desc v) bounds)
both_sides v [] = refl
both_sides v (b ∷ bounds) =
    ap₂ ◌&&◌ (by_comparison b.comparison v b.value) (both_sides v bounds)
    ∙ and_swap_inner (limit_admits Asc v b) (limit_admits Desc v b) (list_all (limit_admits Asc v) bounds) (list_all (limit_admits Desc v) bounds)

-- a value meets all bounds exactly if it is within their tightest limits
pub meets_tightest : (v : Value) (bounds : List Bound) → meets_all v bounds ≡ (is_within_some Asc (tightest Asc bounds) v && is_within_some Desc (tightest Desc bounds) v)
meets_tightest v bounds = both_sides v bounds ∙ ap₂ ◌&&◌ (sym (within_tightest Asc v bounds)) (sym (within_tightest Desc v bounds))
