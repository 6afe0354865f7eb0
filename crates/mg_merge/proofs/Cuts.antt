-- Lists in order may be cut at a count before they are merged.
use Rattle.std.proofs.Common.{◌≡◌, ℕ, zero, suc, ◌+◌, ◌≤◌, List, [], ◌∷◌, ◌++◌, map, take, drop, get_or, All, Bool, true, false, cond, if◌then◌else◌, Ordering, Less, Equal, Greater, is_gt, refl, sym, ap, ap₂, ◌∙◌, subst, append_assoc, arith}
use Rattle.std.specs.Cmp.{IsTotalOrder}
use Rattle.std.specs.List.{AllByRecursion, count_by}
use Rattle.std.specs.Ordering.{is_le, ordering_reverse}
use Rattle.std.proofs.lemmas.Cmp.{upto}
use Rattle.std.proofs.lemmas.List.{take-append-drop}
use Rattle.std.proofs.lemmas.List.Elements.{All-map}
use Rattle.std.proofs.lemmas.List.Sorted.{sum_by-IsPermutation, IsPermutation-refl}
use Rattle.std.proofs.lemmas.List.Sums.{sum_by-cons, sum_by-append}
use Rattle.mg_collate.specs.declared.direction.Direction.{Direction}
use Rattle.mg_collate.specs.Row.{RowValue, directed_order}
use Rattle.mg_collate.specs.Sorted.{IsInOrder, sorted_with, sorted}
use Rattle.mg_collate.proofs.Directed.{directed_total, directed_ties}
use Rattle.mg_collate.proofs.Sorting.{NoneBelow, Rises, times, all_of_each, all_weaker, rises, in_order, rises_sorted, permutation_sorted, sorted_of_same, one_in_order, sorted_least}
use Rattle.mg_merge.specs.Merged.{joined, merged}
use Rattle.mg_merge.proofs.Heads.{times_append, all_rise}

-- ties are equal elements
abbrev TiesAreEqual : {X : Type 0} → (X → X → Ordering) → Type 0
TiesAreEqual {X} order = (x y : X) → order x y ≡ Equal → x ≡ y

-- ---- how many elements of a list are not above x

abbrev up_to : {X : Type 0} → (X → X → Ordering) → X → List X → ℕ
up_to order x ys = count_by (λ y. is_le (order y x)) ys

not_le : (o : Ordering) → (is_gt o ≡ false → ⊥) → is_le o ≡ false
not_le Less h = absurd (h refl)
not_le Equal h = absurd (h refl)
not_le Greater h = refl

not_gt : (o : Ordering) → is_gt o ≡ false → is_le o ≡ true
not_gt Less h = refl
not_gt Equal h = refl
not_gt Greater h = absurd cc

one_fewer : (b : Bool) (n m p : ℕ) → p ≡ cond b 1 0 + m → suc n ≤ p → n ≤ m
one_fewer true n m p e h = omega arith
one_fewer false n m p e h = omega arith

one_further : (b : Bool) (n m p : ℕ) → b ≡ true → p ≡ cond b 1 0 + m → n ≤ m → suc n ≤ p
one_further true n m p e f h = omega arith
one_further false n m p e f h = absurd cc

none_up_to : {X : Type 0} (order : X → X → Ordering) (x : X) (ys : List X) → AllByRecursion (λ y. is_le (order y x) ≡ false) ys → up_to order x ys ≡ 0
none_up_to order x [] h = refl
none_up_to order x (y ∷ ys) h = sum_by-cons (λ z. cond (is_le (order z x)) 1 0) y ys ∙ ap₂ (λ b n. cond b 1 0 + n) h.0 (none_up_to order x ys h.1)

-- a list in order that begins above x has no element up to x
none_from_above : {X : Type 0} (order : X → X → Ordering) → IsTotalOrder order → (x y : X) (ys : List X) → order x y ≡ Less → NoneBelow order y ys → up_to order x (y ∷ ys) ≡ 0
none_from_above order o x y ys e h =
    let above : order y x ≡ Greater = o.antisymm y x ∙ ap ordering_reverse e in
    none_up_to order x (y ∷ ys) (
      ap is_le above,
      all_weaker (λ z. is_gt (order y z) ≡ false) (λ z. is_le (order z x) ≡ false) (λ z k. not_le (order z x) (λ l. let wrong : true ≡ false = sym (ap is_gt above) ∙ upto o y z x k l in absurd cc)) ys h,
    )

up_to_sorted : {X : Type 0} (order : X → X → Ordering) (x : X) (ys : List X) → up_to order x (sorted order ys) ≡ up_to order x ys
up_to_sorted order x ys = sum_by-IsPermutation (λ y. cond (is_le (order y x)) 1 0) ys (sorted order ys) (permutation_sorted order ys)

-- ---- an element that comes late is not among the first

first_inserted : {X : Type 0} (order : X → X → Ordering) → IsTotalOrder order → TiesAreEqual order → (x : X) (ys : List X) → NoneBelow order x ys → Rises order ys → sorted_with order x ys ≡ x ∷ ys
first_inserted order o ties x ys h k =
    subst (λ zs. sorted_with order x zs ≡ x ∷ zs) (sym (one_in_order order o ties ys ys (IsPermutation-refl ys) (in_order order o ys k))) (sorted_least order x ys h)

late_at : {X : Type 0} (order : X → X → Ordering) → IsTotalOrder order → TiesAreEqual order → (n : ℕ) (x y : X) (ys : List X) (a : Ordering) → order x y ≡ a → Rises order (y ∷ ys) → suc n ≤ up_to order x (y ∷ ys)
    → take n (sorted_with order x ys) ≡ take n ys → take (suc n) (if is_gt a then y ∷ sorted_with order x ys else x ∷ y ∷ ys) ≡ y ∷ take n ys
late_at order o ties n x y ys Less e h k more = let none = none_from_above order o x y ys e h.0 in absurd (omega arith)
late_at order o ties n x y ys Equal e h k more =
    let same = ties x y e in
    let none : NoneBelow order x ys = subst (λ z. NoneBelow order z ys) (sym same) h.0 in
    ap₂ (λ z zs. z ∷ zs) same (ap (λ z. take n (z ∷ ys)) (sym same) ∙ ap (take n) (sym (first_inserted order o ties x ys none h.1)) ∙ more)
late_at order o ties n x y ys Greater e h k more = ap (λ zs. y ∷ zs) more

late_inserted : {X : Type 0} (order : X → X → Ordering) → IsTotalOrder order → TiesAreEqual order → (n : ℕ) (x : X) (ys : List X) → Rises order ys → n ≤ up_to order x ys → take n (sorted_with order x ys) ≡ take n ys
late_inserted order o ties zero x ys h k = refl
late_inserted order o ties (suc n) x [] h k = absurd (omega arith)
late_inserted order o ties (suc n) x (y ∷ ys) h k =
    let fewer = one_fewer (is_le (order y x)) n (up_to order x ys) (up_to order x (y ∷ ys)) (sum_by-cons (λ z. cond (is_le (order z x)) 1 0) y ys) k in
    late_at order o ties n x y ys (order x y) refl h k (late_inserted order o ties n x ys h.1 fewer)

late_left_out : {X : Type 0} (order : X → X → Ordering) → IsTotalOrder order → TiesAreEqual order → (n : ℕ) (late kept : List X) → AllByRecursion (λ x. n ≤ up_to order x kept) late
    → take n (sorted order (late ++ kept)) ≡ take n (sorted order kept)
late_left_out order o ties n [] kept h = refl
late_left_out order o ties n (x ∷ late) kept h =
    let all = up_to_sorted order x (late ++ kept) in
    let both = sum_by-append (λ y. cond (is_le (order y x)) 1 0) late kept in
    let first = h.0 in
    late_inserted order o ties n x (sorted order (late ++ kept)) (rises_sorted order o (late ++ kept)) (omega arith) ∙ late_left_out order o ties n late kept h.1

-- ---- in a list in order, the elements past the first ones come late

all_dropped : {X : Type 0} (P : X → Type 0) (n : ℕ) (xs : List X) → AllByRecursion P xs → AllByRecursion P (drop n xs)
all_dropped P zero xs h = h
all_dropped P (suc n) [] h = tt
all_dropped P (suc n) (x ∷ xs) h = all_dropped P n xs h.1

all_taken : {X : Type 0} (P : X → Type 0) (n : ℕ) (xs : List X) → AllByRecursion P xs → AllByRecursion P (take n xs)
all_taken P zero xs h = tt
all_taken P (suc n) [] h = tt
all_taken P (suc n) (x ∷ xs) h = (h.0, all_taken P n xs h.1)

rises_taken : {X : Type 0} (order : X → X → Ordering) (n : ℕ) (xs : List X) → Rises order xs → Rises order (take n xs)
rises_taken order zero xs h = tt
rises_taken order (suc n) [] h = tt
rises_taken order (suc n) (x ∷ xs) h = (all_taken (λ y. is_gt (order x y) ≡ false) n xs h.0, rises_taken order n xs h.1)

all_of_both : {X : Type 0} (P Q R : X → Type 0) → ((x : X) → P x → Q x → R x) → (xs : List X) → AllByRecursion P xs → AllByRecursion Q xs → AllByRecursion R xs
all_of_both P Q R f [] h k = tt
all_of_both P Q R f (x ∷ xs) h k = (f x h.0 k.0, all_of_both P Q R f xs h.1 k.1)

one_more_up_to : {X : Type 0} (order : X → X → Ordering) (n : ℕ) (x z : X) (xs : List X) → is_gt (order x z) ≡ false → n ≤ up_to order z xs → suc n ≤ up_to order z (x ∷ xs)
one_more_up_to order n x z xs h k =
    one_further (is_le (order x z)) n (up_to order z xs) (up_to order z (x ∷ xs)) (not_gt (order x z) h) (sum_by-cons (λ y. cond (is_le (order y z)) 1 0) x xs) k

rest_is_late : {X : Type 0} (order : X → X → Ordering) (n : ℕ) (xs : List X) → Rises order xs → AllByRecursion (λ x. n ≤ up_to order x (take n xs)) (drop n xs)
rest_is_late order zero xs h = all_of_each (λ x. 0 ≤ up_to order x []) xs (λ i d k. omega arith)
rest_is_late order (suc n) [] h = tt
rest_is_late order (suc n) (x ∷ xs) h =
    all_of_both (λ z. is_gt (order x z) ≡ false) (λ z. n ≤ up_to order z (take n xs)) (λ z. suc n ≤ up_to order z (x ∷ take n xs)) (λ z k l. one_more_up_to order n x z (take n xs) k l) (drop n xs)
    (all_dropped (λ z. is_gt (order x z) ≡ false) n xs h.0) (rest_is_late order n xs h.1)

-- ---- one list cut, and then all of them

times_cut : {X : Type 0} (order : X → X → Ordering) (z : X) (n : ℕ) (xs others : List X) → times order z (xs ++ others) ≡ times order z (drop n xs ++ (take n xs ++ others))
times_cut order z n xs others =
    let whole = ap (times order z) (sym (take-append-drop n xs)) in
    let parts = times_append order z (take n xs) (drop n xs) in
    let left = times_append order z xs others in
    let right = times_append order z (drop n xs) (take n xs ++ others) in
    let kept = times_append order z (take n xs) others in omega arith

cut_one : {X : Type 0} (order : X → X → Ordering) → IsTotalOrder order → TiesAreEqual order → (n : ℕ) (xs others : List X) → Rises order xs → take n (sorted order (xs ++ others)) ≡ take n (sorted order (take n xs ++ others))
cut_one order o ties n xs others h =
    ap (take n) (sorted_of_same order o ties (xs ++ others) (drop n xs ++ (take n xs ++ others)) (λ z. times_cut order z n xs others))
    ∙ late_left_out order o ties n (drop n xs) (take n xs ++ others)
    (all_weaker (λ x. n ≤ up_to order x (take n xs)) (λ x. n ≤ up_to order x (take n xs ++ others)) (λ x k. let both = sum_by-append (λ y. cond (is_le (order y x)) 1 0) (take n xs) others in omega arith) (drop n xs) (rest_is_late order n xs h))

times_swapped : {X : Type 0} (order : X → X → Ordering) (z : X) (xs ys zs : List X) → times order z (xs ++ (ys ++ zs)) ≡ times order z (ys ++ (xs ++ zs))
times_swapped order z xs ys zs =
    let a = times_append order z xs (ys ++ zs) in let b = times_append order z ys zs in let c = times_append order z ys (xs ++ zs) in let d = times_append order z xs zs in omega arith

cut_all : {X : Type 0} (order : X → X → Ordering) → IsTotalOrder order → TiesAreEqual order → (n : ℕ) (done : List X) (lists : List (List X)) → AllByRecursion (Rises order) lists
    → take n (sorted order (done ++ joined (map (take n) lists))) ≡ take n (sorted order (done ++ joined lists))
cut_all order o ties n done [] h = refl
cut_all order o ties n done (xs ∷ lists) h =
    let cut = joined (map (take n) lists) in
    let swapped = λ (ys zs : List _). ap (take n) (sorted_of_same order o ties (done ++ (ys ++ zs)) (ys ++ (done ++ zs)) (λ z. times_swapped order z done ys zs)) in
    swapped (take n xs) cut
    ∙ ap (λ l. take n (sorted order l)) (sym (append_assoc (take n xs) done cut))
    ∙ cut_all order o ties n (take n xs ++ done) lists h.1
    ∙ ap (λ l. take n (sorted order l)) (append_assoc (take n xs) done (joined lists))
    ∙ sym (cut_one order o ties n xs (done ++ joined lists) h.0)
    ∙ sym (swapped xs (joined lists))

-- ---- rows

-- lists in order that are cut are in order
pub cut_in_order : (direction : Direction) (count : ℕ) (lists : List (List RowValue)) → All (IsInOrder direction) lists → All (IsInOrder direction) (map (take count) lists)
cut_in_order direction count lists h =
    All-map (IsInOrder direction) (take count) lists
    (λ k d l. in_order (directed_order direction) (directed_total direction) (take count (get_or lists k d)) (rises_taken (directed_order direction) count (get_or lists k d) (rises (directed_order direction) (directed_total direction) (get_or lists k d) (h k d l))))

-- lists in order may be cut at the count before they are merged
pub cut_lists : (direction : Direction) (count : ℕ) (lists : List (List RowValue)) → All (IsInOrder direction) lists → merged direction count (map (take count) lists) ≡ merged direction count lists
cut_lists direction count lists h = cut_all (directed_order direction) (directed_total direction) (directed_ties direction) count [] lists (all_rise (directed_order direction) (directed_total direction) lists h)
