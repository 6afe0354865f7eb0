-- Taking the first element off lists that are in order.
use Rattle.std.proofs.Common.{◌≡◌, ℕ, zero, suc, ◌+◌, ◌<◌, List, [], ◌∷◌, ◌++◌, length, get_or, set, All, Bool, true, false, cond, if◌then◌else◌, Ordering, Less, Equal, Greater, is_eq, is_gt, refl, sym, ap, ◌∙◌, subst, arith}
use Rattle.std.specs.Cmp.{IsTotalOrder}
use Rattle.std.specs.List.{AllByRecursion}
use Rattle.std.specs.List.Sorted.{IsSorted}
use Rattle.std.specs.Ordering.{ordering_reverse}
use Rattle.std.proofs.lemmas.Cmp.{upto, alike_right}
use Rattle.mg_collate.specs.Sorted.{sorted_with, sorted}
use Rattle.mg_collate.proofs.Sorting.{NoneBelow, Rises, times, all_of_each, all_weaker, all_append, rises, in_order, sorted_least}
use Rattle.mg_merge.specs.Merged.{joined}

-- an x that is below y is below all that are not below y
below_next : {X : Type 0} (order : X → X → Ordering) → IsTotalOrder order → (x y z : X) (a : Ordering) → order y z ≡ a → order x y ≡ Less → is_gt a ≡ false → order x z ≡ Less
below_next order o x y z Less e h k = o.trans x y z h e
below_next order o x y z Equal e h k = sym (alike_right o y z x e) ∙ h
below_next order o x y z Greater e h k = absurd cc

-- ---- how often an element occurs in two lists

one_more : (b : Bool) (m n k : ℕ) → m ≡ n + k → cond b (1 + m) m ≡ cond b (1 + n) n + k
one_more true m n k h = omega arith
one_more false m n k h = h

pub times_append : {X : Type 0} (order : X → X → Ordering) (z : X) (xs ys : List X) → times order z (xs ++ ys) ≡ times order z xs + times order z ys
times_append order z [] ys = omega arith
times_append order z (x ∷ xs) ys = one_more (is_eq (order z x)) _ _ _ (times_append order z xs ys)

-- ---- lists that rise

all_set : {X : Type 0} (P : X → Type 0) (xs : List X) (i : ℕ) (y : X) → P y → AllByRecursion P xs → AllByRecursion P (set xs i y)
all_set P [] i y p h = h
all_set P (x ∷ xs) zero y p h = (p, h.1)
all_set P (x ∷ xs) (suc i) y p h = (h.0, all_set P xs i y p h.1)

pub all_at : {X : Type 0} (P : X → Type 0) (xs : List X) (i : ℕ) (d : X) → i < length xs → AllByRecursion P xs → P (get_or xs i d)
all_at P [] i d k h = absurd (omega arith)
all_at P (x ∷ xs) zero d k h = h.0
all_at P (x ∷ xs) (suc i) d k h = all_at P xs i d (omega arith) h.1

pub all_rise : {X : Type 0} (order : X → X → Ordering) → IsTotalOrder order → (lists : List (List X)) → All (IsSorted order) lists → AllByRecursion (Rises order) lists
all_rise order o lists h = all_of_each (Rises order) lists (λ i d k. rises order o (get_or lists i d) (h i d k))

pub order_kept : {X : Type 0} (order : X → X → Ordering) → IsTotalOrder order → (lists : List (List X)) (place : ℕ) (x : X) (rest : List X) → All (IsSorted order) lists → place < length lists → get_or lists place [] ≡ x ∷ rest
    → All (IsSorted order) (set lists place rest)
order_kept order o lists place x rest ordered k e =
    let rising = all_rise order o lists ordered in
    let first : Rises order (x ∷ rest) = subst (Rises order) e (all_at (Rises order) lists place [] k rising) in
    let more = all_set (Rises order) lists place rest first.1 rising in
    λ i d l. in_order order o (get_or (set lists place rest) i d) (all_at (Rises order) (set lists place rest) i d l more)

-- ---- what comes first of all

-- if x is not above the first element of a list that rises, it is not above any
none_in : {X : Type 0} (order : X → X → Ordering) → IsTotalOrder order → (x y : X) (ys : List X) → is_gt (order x y) ≡ false → Rises order (y ∷ ys) → NoneBelow order x (y ∷ ys)
none_in order o x y ys h k = (h, all_weaker (λ z. is_gt (order y z) ≡ false) (λ z. is_gt (order x z) ≡ false) (λ z l. upto o x y z h l) ys k.0)

none_in_all : {X : Type 0} (order : X → X → Ordering) → IsTotalOrder order → (x : X) (lists : List (List X)) → ((k : ℕ) (y : X) (ys : List X) → get_or lists k [] ≡ y ∷ ys → is_gt (order x y) ≡ false)
    → AllByRecursion (Rises order) lists → NoneBelow order x (joined lists)
none_in_all order o x [] h k = tt
none_in_all order o x ([] ∷ lists) h k = none_in_all order o x lists (λ i. h (suc i)) k.1
none_in_all order o x ((y ∷ ys) ∷ lists) h k =
    all_append (λ z. is_gt (order x z) ≡ false) (y ∷ ys) (joined lists) (none_in order o x y ys (h 0 y ys refl) k.0) (none_in_all order o x lists (λ i. h (suc i)) k.1)

-- if a list that rises begins above x, all its elements are above x
all_above : {X : Type 0} (order : X → X → Ordering) → IsTotalOrder order → (x : X) (ys : List X) → ((y : X) (zs : List X) → ys ≡ y ∷ zs → order x y ≡ Less) → Rises order ys → AllByRecursion (λ y. is_gt (order y x) ≡ true) ys
all_above order o x [] h k = tt
all_above order o x (y ∷ ys) h k =
    let first = h y ys refl in (
      ap is_gt (o.antisymm y x ∙ ap ordering_reverse first),
      all_weaker (λ z. is_gt (order y z) ≡ false) (λ z. is_gt (order z x) ≡ true) (λ z l. ap is_gt (o.antisymm z x ∙ ap ordering_reverse (below_next order o x y z (order y z) refl first l))) ys k.0,
    )

-- elements above x are sorted after x
sorted_behind : {X : Type 0} (order : X → X → Ordering) (x : X) (ys zs more : List X) → AllByRecursion (λ y. is_gt (order y x) ≡ true) ys → sorted order zs ≡ x ∷ sorted order more
    → sorted order (ys ++ zs) ≡ x ∷ sorted order (ys ++ more)
sorted_behind order x [] zs more h e = e
sorted_behind order x (y ∷ ys) zs more h e =
    ap (sorted_with order y) (sorted_behind order x ys zs more h.1 e) ∙ ap (λ b. if b then x ∷ sorted_with order y (sorted order (ys ++ more)) else y ∷ x ∷ sorted order (ys ++ more)) h.0

taken_first : {X : Type 0} (order : X → X → Ordering) → IsTotalOrder order → (lists : List (List X)) (place : ℕ) (x : X) (rest : List X) → AllByRecursion (Rises order) lists → get_or lists place [] ≡ x ∷ rest
    → ((k : ℕ) (y : X) (ys : List X) → get_or lists k [] ≡ y ∷ ys → is_gt (order x y) ≡ false) → ((k : ℕ) (y : X) (ys : List X) → k < place → get_or lists k [] ≡ y ∷ ys → order x y ≡ Less)
    → sorted order (joined lists) ≡ x ∷ sorted order (joined (set lists place rest))
taken_first order o [] place x rest rising e least before = absurd cc
taken_first order o (xs ∷ lists) zero x rest rising e least before =
    let first : Rises order (x ∷ rest) = subst (Rises order) e rising.0 in
    ap (λ ys. sorted order (ys ++ joined lists)) e
    ∙ sorted_least order x (rest ++ joined lists) (all_append (λ y. is_gt (order x y) ≡ false) rest (joined lists) first.0 (none_in_all order o x lists (λ i. least (suc i)) rising.1))
taken_first order o (ys ∷ lists) (suc place) x rest rising e least before =
    sorted_behind order x ys (joined lists) (joined (set lists place rest)) (all_above order o x ys (λ y zs h. before 0 y zs (omega arith) h) rising.0)
    (taken_first order o lists place x rest rising.1 e (λ i. least (suc i)) (λ i y zs k. before (suc i) y zs (omega arith)))

-- an element that is not above the first of any list, and is below the first of each list of a lesser number, comes first of all
pub first_taken : {X : Type 0} (order : X → X → Ordering) → IsTotalOrder order → (lists : List (List X)) (place : ℕ) (x : X) (rest : List X) → All (IsSorted order) lists → get_or lists place [] ≡ x ∷ rest
    → ((k : ℕ) (y : X) (ys : List X) → get_or lists k [] ≡ y ∷ ys → is_gt (order x y) ≡ false) → ((k : ℕ) (y : X) (ys : List X) → k < place → get_or lists k [] ≡ y ∷ ys → order x y ≡ Less)
    → sorted order (joined lists) ≡ x ∷ sorted order (joined (set lists place rest))
first_taken order o lists place x rest ordered = taken_first order o lists place x rest (all_rise order o lists ordered)

pub none_left : {X : Type 0} (lists : List (List X)) → ((k : ℕ) → get_or lists k [] ≡ []) → joined lists ≡ []
none_left [] h = refl
none_left ([] ∷ lists) h = none_left lists (λ i. h (suc i))
none_left ((x ∷ xs) ∷ lists) h = absurd (let wrong : x ∷ xs ≡ [] = h 0 in cc)
