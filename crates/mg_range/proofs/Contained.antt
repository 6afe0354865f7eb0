-- The range that is made of the tightest bounds has exactly the keys that meet every bound.
use Rattle.std.proofs.Common.{◌≡◌, Bool, true, false, cond, not, ◌&&◌, List, [], ◌∷◌, length, Option, Some, None, is_some, Ordering, Less, Equal, Greater, refl, sym, ap, ap₂, ◌∙◌, arith}
use Rattle.std.proofs.lemmas.Bool.{false≢true, and_parts}
use Rattle.std.specs.List.{list_all, find}
use Rattle.std.specs.Ordering.{is_eq, ordering_reverse, match_ordering}
use Rattle.mg_value.specs.Value.{Value}
use Rattle.mg_collate.specs.Order.{value_order}
use Rattle.mg_collate.specs.declared.direction.Direction.TheVariants.{Asc, Desc}
use Rattle.mg_collate.proofs.Ties.{value_order_total, value_tie}
use Rattle.mg_normal.specs.Atoms.{Atom}
use Rattle.mg_index.specs.Bound.{Bound, bounds_on, meets, meets_all, allows, is_exact, is_exactly}
use Rattle.mg_index.specs.Definition.{Steps}
use Rattle.mg_index.specs.declared.bound.Comparison.{Comparison}
use Rattle.mg_index.specs.declared.bound.Comparison.TheVariants.{Below, AtMost, Exactly, AtLeast, Above}
use Rattle.mg_index.proofs.Bounds.{some_found}
use Rattle.mg_range.proofs.Limits.{and_false, and_true, above, is_within_some, meets_tightest}
use Rattle.mg_range.specs.RangeSide.{admits, is_within, is_before, is_past, side_from, is_side_within, has_key}
use Rattle.mg_range.specs.Range.{Limit, Range, span_of, is_crossed, between, with_equal, range_from, range_of, in_range, tightest}
use Rattle.mg_range.specs.declared.side.RangeSide.TheVariants.{Before, Within, Past}

same_tests : (s t : Bool) → (s ≡ true → t ≡ true) → (t ≡ true → s ≡ true) → s ≡ t
same_tests true t f g = sym (f refl)
same_tests false true f g = g refl
same_tests false false f g = refl

not_true : (s : Bool) → (s ≡ true → ⊥) → s ≡ false
not_true true f = absurd (f refl)
not_true false f = refl

-- ---- between limits

placed : (a b : Bool) → is_side_within (cond (not a) Before (cond (not b) Past Within)) ≡ (a && b)
placed true true = refl
placed true false = refl
placed false b = refl

within_both : (lower upper : Option Limit) (v : Value) (vs : List Value) → is_side_within (side_from [] lower upper (v ∷ vs)) ≡ (is_within_some Asc lower v && is_within_some Desc upper v)
within_both None None v vs = refl
within_both None (Some u) v vs = placed true (is_within Desc u v)
within_both (Some l) None v vs = placed (is_within Asc l v) true
within_both (Some l) (Some u) v vs = placed (is_within Asc l v) (is_within Desc u v)

-- no value is within two limits with equal values if one of the limits is exclusive
none_at : (i j : Bool) (x : Ordering) → not (i && j) ≡ true → (admits i x && admits j (ordering_reverse x)) ≡ false
none_at true true x h = absurd (false≢true h)
none_at true false Less h = refl
none_at true false Equal h = refl
none_at true false Greater h = refl
none_at false j Less h = refl
none_at false j Equal h = refl
none_at false true Greater h = refl
none_at false false Greater h = refl

-- no value is within two limits if the lower one is above the upper one
none_above : (i j : Bool) (x y : Ordering) → ((x ≡ Less → ⊥) → y ≡ Greater) → (admits i x && admits j (ordering_reverse y)) ≡ false
none_above true j Less y h = refl
none_above false j Less y h = refl
none_above i true Equal y h = ap (λ o. admits i Equal && admits true (ordering_reverse o)) (h (λ e. cc)) ∙ sym (and_false (admits i Equal))
none_above i false Equal y h = ap (λ o. admits i Equal && admits false (ordering_reverse o)) (h (λ e. cc)) ∙ sym (and_false (admits i Equal))
none_above i true Greater y h = ap (λ o. admits i Greater && admits true (ordering_reverse o)) (h (λ e. cc)) ∙ sym (and_false (admits i Greater))
none_above i false Greater y h = ap (λ o. admits i Greater && admits false (ordering_reverse o)) (h (λ e. cc)) ∙ sym (and_false (admits i Greater))

crossed_at : (l u : Limit) (v : Value) (o : Ordering) → value_order l.value u.value ≡ o → match_ordering o false (not (l.inclusive && u.inclusive)) true ≡ true
    → (is_within Asc l v && is_within Desc u v) ≡ false
crossed_at l u v Less e h = absurd (false≢true h)
crossed_at l u v Equal e h =
    ap (λ w. is_within Asc l v && admits u.inclusive (ordering_reverse (value_order v w))) (sym ((value_tie l.value u.value).0 e))
    ∙ none_at l.inclusive u.inclusive (value_order v l.value) h
crossed_at l u v Greater e h =
    let less = value_order_total.antisymm u.value l.value ∙ ap ordering_reverse e in
    none_above l.inclusive u.inclusive (value_order v l.value) (value_order v u.value) (above value_order_total v u.value l.value less)

crossed : (lower upper : Option Limit) (v : Value) → is_crossed lower upper ≡ true → (is_within_some Asc lower v && is_within_some Desc upper v) ≡ false
crossed None upper v h = absurd (false≢true h)
crossed (Some l) None v h = absurd (false≢true h)
crossed (Some l) (Some u) v h = crossed_at l u v (value_order l.value u.value) refl h

between_at : (lower upper : Option Limit) (v : Value) (vs : List Value) (b : Bool) → is_crossed lower upper ≡ b
    → has_key (cond b None (Some (span_of [] lower upper))) (v ∷ vs) ≡ (is_within_some Asc lower v && is_within_some Desc upper v)
between_at lower upper v vs true e = sym (crossed lower upper v e)
between_at lower upper v vs false e = within_both lower upper v vs

has_between : (lower upper : Option Limit) (v : Value) (vs : List Value) → has_key (between lower upper) (v ∷ vs) ≡ (is_within_some Asc lower v && is_within_some Desc upper v)
has_between lower upper v vs = between_at lower upper v vs (is_crossed lower upper) refl

-- ---- a value that is fixed

behind_at : (o : Ordering) (b p : Bool)
    → is_side_within (cond (match_ordering o true b false) Before (cond (match_ordering o false p true) Past Within)) ≡ (is_eq o && is_side_within (cond b Before (cond p Past Within)))
behind_at Less b p = refl
behind_at Equal b p = refl
behind_at Greater b p = refl

has_behind : (w : Value) (rest : Range) (v : Value) (vs : List Value) → has_key (with_equal w rest) (v ∷ vs) ≡ (is_eq (value_order v w) && has_key rest vs)
has_behind w None v vs = and_false (is_eq (value_order v w))
has_behind w (Some s) v vs = behind_at (value_order v w) (is_before s.equal s.lower vs) (is_past s.equal s.upper vs)

-- y passes the test p, and passes each test that all elements pass
abbrev Found : {X : Type 0} → (X → Bool) → List X → X → Type 0
Found {X} p xs y = (p y ≡ true) × ((q : X → Bool) → list_all q xs ≡ true → q y ≡ true)

found_at : {X : Type 0} (p : X → Bool) (x : X) (xs : List X) (y : X) → (find p xs ≡ Some y → Found p xs y) → (b : Bool) → p x ≡ b → cond b (Some x) (find p xs) ≡ Some y → Found p (x ∷ xs) y
found_at p x xs y more true f g =
    let same : x ≡ y = cc g in
    (ap p (sym same) ∙ f, λ q h. ap q (sym same) ∙ (and_parts (q x) (list_all q xs) h).0)
found_at p x xs y more false f g = ((more g).0, λ q h. (more g).1 q (and_parts (q x) (list_all q xs) h).1)

-- an element that a search finds passes the test of the search, and each test that all elements pass
found : {X : Type 0} (p : X → Bool) (xs : List X) (y : X) → find p xs ≡ Some y → Found p xs y
found p [] y e = absurd cc
found p (x ∷ xs) y e = found_at p x xs y (found p xs y) (p x) refl e

equal_at : (k : Comparison) (o : Ordering) → is_exactly k ≡ true → allows k o ≡ true → is_eq o ≡ true
equal_at Exactly o e h = h
equal_at Below o e h = absurd (false≢true e)
equal_at AtMost o e h = absurd (false≢true e)
equal_at AtLeast o e h = absurd (false≢true e)
equal_at Above o e h = absurd (false≢true e)

is_eq-true : (o : Ordering) → is_eq o ≡ true → o ≡ Equal
is_eq-true Less h = absurd (false≢true h)
is_eq-true Equal h = refl
is_eq-true Greater h = absurd (false≢true h)

-- a value that meets all bounds equals the one that they fix
fixes : (bounds : List Bound) (b : Bound) (v : Value) → find is_exact bounds ≡ Some b → meets_all v bounds ≡ true → is_eq (value_order v b.value) ≡ true
fixes bounds b v e h =
    let there = found is_exact bounds b e in
    equal_at b.comparison (value_order v b.value) there.0 (there.1 (meets v) h)

same_as : (v w : Value) → is_eq (value_order v w) ≡ true → v ≡ w
same_as v w h = (value_tie v w).0 (is_eq-true (value_order v w) h)

fixed_at : (bounds : List Bound) (b : Bound) (rest : Range) (v : Value) (vs : List Value) → find is_exact bounds ≡ Some b → (m : Bool) → meets_all b.value bounds ≡ m
    → has_key (cond m (with_equal b.value rest) None) (v ∷ vs) ≡ (meets_all v bounds && has_key rest vs)
fixed_at bounds b rest v vs e true f =
    has_behind b.value rest v vs
    ∙ ap (λ t. t && has_key rest vs)
    (same_tests (is_eq (value_order v b.value)) (meets_all v bounds) (λ h. ap (λ w. meets_all w bounds) (same_as v b.value h) ∙ f) (fixes bounds b v e))
fixed_at bounds b rest v vs e false f =
    ap (λ t. t && has_key rest vs)
    (sym (not_true (meets_all v bounds) (λ h. false≢true (sym f ∙ ap (λ w. meets_all w bounds) (sym (same_as v b.value (fixes bounds b v e h))) ∙ h))))

at_column : (bounds : List Bound) (o : Option Bound) → find is_exact bounds ≡ o → (rest : Range) (v : Value) (vs : List Value)
    → has_key (range_from bounds o rest) (v ∷ vs) ≡ (meets_all v bounds && cond (is_some o) (has_key rest vs) true)
at_column bounds None e rest v vs = has_between (tightest Asc bounds) (tightest Desc bounds) v vs ∙ sym (meets_tightest v bounds) ∙ and_true (meets_all v bounds)
at_column bounds (Some b) e rest v vs = fixed_at bounds b rest v vs e (meets_all b.value bounds) refl

-- the range has a key, one value for each column, exactly if the key meets the bounds
pub contained : (atoms : List Atom) (columns : List Steps) (key : List Value) → length key ≡ length columns → has_key (range_of atoms columns) key ≡ in_range atoms columns key
contained atoms [] [] h = refl
contained atoms [] (v ∷ vs) h = absurd (omega arith)
contained atoms (c ∷ cs) [] h = absurd (omega arith)
contained atoms (c ∷ cs) (v ∷ vs) h =
    let bounds = bounds_on atoms c in
    at_column bounds (find is_exact bounds) refl (range_of atoms cs) v vs
    ∙ ap₂ (λ f r. meets_all v bounds && cond f r true) (sym (some_found is_exact bounds)) (contained atoms cs vs (omega arith))
