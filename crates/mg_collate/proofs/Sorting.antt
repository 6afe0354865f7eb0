-- Sorting by a total order that ties only equal elements: how often each element occurs determines a list in order.
use Rattle.std.proofs.Common.{◌≡◌, ℕ, zero, suc, ◌+◌, ◌<◌, List, [], ◌∷◌, ◌++◌, length, get_or, Bool, true, false, cond, if◌then◌else◌, Ordering, Less, Equal, Greater, is_eq, is_lt, is_gt, refl, sym, ap, ap₂, ◌∙◌, subst, arith}
use Rattle.std.specs.Cmp.{IsTotalOrder}
use Rattle.std.specs.List.{AllByRecursion}
use Rattle.std.specs.List.Sorted.{IsSorted, IsPermutation}
use Rattle.std.specs.Ordering.{ordering_reverse}
use Rattle.std.proofs.lemmas.Cmp.{upto, tied_itself, alike_right}
use Rattle.std.proofs.lemmas.List.Recursion.{is_count_by}
use Rattle.std.proofs.lemmas.List.Sorted.{ranks_by, sorted_far, sum_by-IsPermutation, IsPermutation-refl, IsPermutation-cons, IsPermutation-middle, IsPermutation-trans}
use Rattle.mg_collate.specs.Sorted.{sorted_with, sorted}

-- no element of the list is below x
abbrev pub NoneBelow : {X : Type 0} → (X → X → Ordering) → X → List X → Type 0
NoneBelow order x = AllByRecursion (λ y. is_gt (order x y) ≡ false)

-- no element is above a later one
abbrev pub Rises : {X : Type 0} → (X → X → Ordering) → List X → Type 0
Rises order [] = Unit {0}
Rises order (x ∷ xs) = NoneBelow order x xs × Rises order xs

-- how often x occurs in the list
abbrev pub times : {X : Type 0} → (X → X → Ordering) → X → List X → ℕ
times order x [] = 0
times order x (y ∷ ys) = cond (is_eq (order x y)) (1 + times order x ys) (times order x ys)

not_above : (a b : Ordering) → a ≡ ordering_reverse b → is_lt b ≡ false → is_gt a ≡ false
not_above a Less e h = absurd cc
not_above a Equal e h = ap is_gt e
not_above a Greater e h = ap is_gt e

not_below : (a b : Ordering) → a ≡ ordering_reverse b → is_gt b ≡ false → is_lt a ≡ false
not_below a Less e h = ap is_lt e
not_below a Equal e h = ap is_lt e
not_below a Greater e h = absurd cc

above_turned : (a b : Ordering) → a ≡ ordering_reverse b → is_gt b ≡ true → is_gt a ≡ false
above_turned a Less e h = absurd cc
above_turned a Equal e h = absurd cc
above_turned a Greater e h = ap is_gt e

-- ---- lists whose elements all have a property

pub all_of_each : {X : Type 0} (P : X → Type 0) (xs : List X) → ((i : ℕ) (d : X) → i < length xs → P (get_or xs i d)) → AllByRecursion P xs
all_of_each P [] h = tt
all_of_each P (x ∷ xs) h = (h 0 x (omega arith), all_of_each P xs (λ i d k. h (suc i) d (omega arith)))

pub all_weaker : {X : Type 0} (P Q : X → Type 0) → ((x : X) → P x → Q x) → (xs : List X) → AllByRecursion P xs → AllByRecursion Q xs
all_weaker P Q w [] h = tt
all_weaker P Q w (x ∷ xs) h = (w x h.0, all_weaker P Q w xs h.1)

pub all_append : {X : Type 0} (P : X → Type 0) (xs ys : List X) → AllByRecursion P xs → AllByRecursion P ys → AllByRecursion P (xs ++ ys)
all_append P [] ys h k = k
all_append P (x ∷ xs) ys h k = (h.0, all_append P xs ys h.1 k)

all_either : {X : Type 0} (P : X → Type 0) (b : Bool) (xs ys : List X) → AllByRecursion P xs → AllByRecursion P ys → AllByRecursion P (if b then xs else ys)
all_either P true xs ys h k = h
all_either P false xs ys h k = k

all_inserted : {X : Type 0} (order : X → X → Ordering) (P : X → Type 0) (x : X) (ys : List X) → P x → AllByRecursion P ys → AllByRecursion P (sorted_with order x ys)
all_inserted order P x [] p h = (p, tt)
all_inserted order P x (y ∷ ys) p h = all_either P (is_gt (order x y)) (y ∷ sorted_with order x ys) (x ∷ y ∷ ys) (h.0, all_inserted order P x ys p h.1) (p, h)

all_sorted : {X : Type 0} (order : X → X → Ordering) (P : X → Type 0) (xs : List X) → AllByRecursion P xs → AllByRecursion P (sorted order xs)
all_sorted order P [] h = tt
all_sorted order P (x ∷ xs) h = all_inserted order P x (sorted order xs) h.0 (all_sorted order P xs h.1)

-- ---- a list in order, by index and by recursion

at_tail : {X : Type 0} (lt : X → X → Type 0) (x : X) (xs : List X) (k : ℕ) (d : X) → lt (get_or (x ∷ xs) (suc k + 1) d) (get_or xs k d) → lt (get_or xs (k + 1) d) (get_or xs k d)
at_tail lt x xs k d h = let e : suc k + 1 ≡ suc (k + 1) = omega arith in subst (λ n. lt (get_or (x ∷ xs) n d) (get_or xs k d)) e h

from_tail : {X : Type 0} (lt : X → X → Type 0) (x : X) (xs : List X) (k : ℕ) (d : X) → lt (get_or xs (k + 1) d) (get_or xs k d) → lt (get_or (x ∷ xs) (suc k + 1) d) (get_or xs k d)
from_tail lt x xs k d h = let e : suc (k + 1) ≡ suc k + 1 = omega arith in subst (λ n. lt (get_or (x ∷ xs) n d) (get_or xs k d)) e h

sorted_tail : {X : Type 0} (order : X → X → Ordering) (x : X) (xs : List X) → IsSorted order (x ∷ xs) → IsSorted order xs
sorted_tail order x xs h = λ k d lo hi. at_tail (λ a b. is_lt (order a b) ≡ false) x xs k d (h (suc k) d (omega arith) (omega arith))

pub rises : {X : Type 0} (order : X → X → Ordering) → IsTotalOrder order → (xs : List X) → IsSorted order xs → Rises order xs
rises order o [] h = tt
rises order o (x ∷ xs) h = (
  all_of_each (λ y. is_gt (order x y) ≡ false) xs (λ i d k. not_above (order x (get_or xs i d)) (order (get_or xs i d) x) (o.antisymm x (get_or xs i d))
      (sorted_far (λ a b. is_lt (order a b)) (ranks_by o (λ y. y)) (x ∷ xs) h 0 (suc i) d (omega arith) (omega arith))),
  rises order o xs (sorted_tail order x xs h),
)

pub in_order : {X : Type 0} (order : X → X → Ordering) → IsTotalOrder order → (xs : List X) → Rises order xs → IsSorted order xs
in_order order o [] h k d lo hi = absurd (omega arith)
in_order order o (x ∷ []) h k d lo hi = absurd (omega arith)
in_order order o (x ∷ y ∷ ys) h zero d lo hi = not_below (order y x) (order x y) (o.antisymm y x) h.0.0
in_order order o (x ∷ y ∷ ys) h (suc k) d lo hi = from_tail (λ a b. is_lt (order a b) ≡ false) x (y ∷ ys) k d (in_order order o (y ∷ ys) h.1 k d (omega arith) (omega arith))

-- ---- what sorting gives is in order, and has the same elements

rises_at : {X : Type 0} (order : X → X → Ordering) → IsTotalOrder order → (x y : X) (ys : List X) (b : Bool) → is_gt (order x y) ≡ b
    → Rises order (y ∷ ys) → Rises order (sorted_with order x ys) → Rises order (if b then y ∷ sorted_with order x ys else x ∷ y ∷ ys)
rises_at order o x y ys true e h more = (all_inserted order (λ z. is_gt (order y z) ≡ false) x ys (above_turned (order y x) (order x y) (o.antisymm y x) e) h.0, more)
rises_at order o x y ys false e h more = ((e, all_weaker (λ z. is_gt (order y z) ≡ false) (λ z. is_gt (order x z) ≡ false) (λ z k. upto o x y z e k) ys h.0), h)

rises_inserted : {X : Type 0} (order : X → X → Ordering) → IsTotalOrder order → (x : X) (ys : List X) → Rises order ys → Rises order (sorted_with order x ys)
rises_inserted order o x [] h = (tt, tt)
rises_inserted order o x (y ∷ ys) h = rises_at order o x y ys (is_gt (order x y)) refl h (rises_inserted order o x ys h.1)

pub rises_sorted : {X : Type 0} (order : X → X → Ordering) → IsTotalOrder order → (xs : List X) → Rises order (sorted order xs)
rises_sorted order o [] = tt
rises_sorted order o (x ∷ xs) = rises_inserted order o x (sorted order xs) (rises_sorted order o xs)

permutation_either : {X : Type 0} (xs ys zs : List X) (b : Bool) → IsPermutation xs ys → IsPermutation xs zs → IsPermutation xs (if b then ys else zs)
permutation_either xs ys zs true h k = h
permutation_either xs ys zs false h k = k

permutation_inserted : {X : Type 0} (order : X → X → Ordering) (x : X) (ys : List X) → IsPermutation (x ∷ ys) (sorted_with order x ys)
permutation_inserted order x [] = IsPermutation-refl (x ∷ [])
permutation_inserted order x (y ∷ ys) =
    permutation_either (x ∷ y ∷ ys) (y ∷ sorted_with order x ys) (x ∷ y ∷ ys) (is_gt (order x y))
    (IsPermutation-trans (x ∷ y ∷ ys) (y ∷ x ∷ ys) (y ∷ sorted_with order x ys) (IsPermutation-middle (x ∷ []) y ys) (IsPermutation-cons y (x ∷ ys) (sorted_with order x ys) (permutation_inserted order x ys)))
    (IsPermutation-refl (x ∷ y ∷ ys))

pub permutation_sorted : {X : Type 0} (order : X → X → Ordering) (xs : List X) → IsPermutation xs (sorted order xs)
permutation_sorted order [] = IsPermutation-refl []
permutation_sorted order (x ∷ xs) =
    IsPermutation-trans (x ∷ xs) (x ∷ sorted order xs) (sorted_with order x (sorted order xs)) (IsPermutation-cons x xs (sorted order xs) (permutation_sorted order xs)) (permutation_inserted order x (sorted order xs))

pub times_permutation : {X : Type 0} (order : X → X → Ordering) (x : X) (xs ys : List X) → IsPermutation xs ys → times order x ys ≡ times order x xs
times_permutation order x xs ys h =
    let counted = is_count_by (times order x) (λ y. is_eq (order x y)) refl (λ _ _. refl) in counted ys ∙ sum_by-IsPermutation (λ y. cond (is_eq (order x y)) 1 0) xs ys h ∙ sym (counted xs)

-- ---- two lists in order with the same elements are equal

below_next : {X : Type 0} (order : X → X → Ordering) → IsTotalOrder order → (x y z : X) (a : Ordering) → order y z ≡ a → order x y ≡ Less → is_gt a ≡ false → order x z ≡ Less
below_next order o x y z Less e h k = o.trans x y z h e
below_next order o x y z Equal e h k = sym (alike_right o y z x e) ∙ h
below_next order o x y z Greater e h k = absurd cc

none_of : {X : Type 0} (order : X → X → Ordering) (x : X) (ys : List X) → AllByRecursion (λ y. order x y ≡ Less) ys → times order x ys ≡ 0
none_of order x [] h = refl
none_of order x (y ∷ ys) h = ap (λ a. cond (is_eq a) (1 + times order x ys) (times order x ys)) h.0 ∙ none_of order x ys h.1

-- x does not occur in a list in order that begins above it
none_above : {X : Type 0} (order : X → X → Ordering) → IsTotalOrder order → (x y : X) (ys : List X) → order x y ≡ Less → NoneBelow order y ys → times order x (y ∷ ys) ≡ 0
none_above order o x y ys e h =
    none_of order x (y ∷ ys) (e, all_weaker (λ z. is_gt (order y z) ≡ false) (λ z. order x z ≡ Less) (λ z k. below_next order o x y z (order y z) refl e k) ys h)

one_more : {X : Type 0} (order : X → X → Ordering) → IsTotalOrder order → (x : X) (xs : List X) → times order x (x ∷ xs) ≡ 1 + times order x xs
one_more order o x xs = ap (λ a. cond (is_eq a) (1 + times order x xs) (times order x xs)) (tied_itself o x)

cancel : (b : Bool) (m n : ℕ) → cond b (1 + m) m ≡ cond b (1 + n) n → m ≡ n
cancel true m n h = omega arith
cancel false m n h = h

same_heads : {X : Type 0} (order : X → X → Ordering) → IsTotalOrder order → (x y : X) (xs ys : List X) (a : Ordering) → order x y ≡ a → NoneBelow order x xs → NoneBelow order y ys
    → ((z : X) → times order z (x ∷ xs) ≡ times order z (y ∷ ys)) → order x y ≡ Equal
same_heads order o x y xs ys Less e h k same = let none = none_above order o x y ys e k in let some = one_more order o x xs in let both = same x in absurd (omega arith)
same_heads order o x y xs ys Equal e h k same = e
same_heads order o x y xs ys Greater e h k same =
    let below : order y x ≡ Less = o.antisymm y x ∙ ap ordering_reverse e in let none = none_above order o y x xs below h in let some = one_more order o y ys in let both = same y in absurd (omega arith)

pub same_list : {X : Type 0} (order : X → X → Ordering) → IsTotalOrder order → ((x y : X) → order x y ≡ Equal → x ≡ y) → (xs ys : List X) → Rises order xs → Rises order ys
    → ((z : X) → times order z xs ≡ times order z ys) → xs ≡ ys
same_list order o ties [] [] h k same = refl
same_list order o ties [] (y ∷ ys) h k same = let some = one_more order o y ys in let both = same y in absurd (omega arith)
same_list order o ties (x ∷ xs) [] h k same = let some = one_more order o x xs in let both = same x in absurd (omega arith)
same_list order o ties (x ∷ xs) (y ∷ ys) h k same =
    let e = ties x y (same_heads order o x y xs ys (order x y) refl h.0 k.0 same) in
    ap₂ (λ z zs. z ∷ zs) e (same_list order o ties xs ys h.1 k.1 (λ z. cancel (is_eq (order z x)) _ _ (same z ∙ ap (λ w. times order z (w ∷ ys)) (sym e))))

-- ---- sorting lists with the same elements

pub sorted_of_same : {X : Type 0} (order : X → X → Ordering) → IsTotalOrder order → ((x y : X) → order x y ≡ Equal → x ≡ y) → (xs ys : List X)
    → ((z : X) → times order z xs ≡ times order z ys) → sorted order xs ≡ sorted order ys
sorted_of_same order o ties xs ys same =
    same_list order o ties (sorted order xs) (sorted order ys) (rises_sorted order o xs) (rises_sorted order o ys)
    (λ z. times_permutation order z xs (sorted order xs) (permutation_sorted order xs) ∙ same z ∙ sym (times_permutation order z ys (sorted order ys) (permutation_sorted order ys)))

-- a list in order is the sorted form of every list with the same elements
pub one_in_order : {X : Type 0} (order : X → X → Ordering) → IsTotalOrder order → ((x y : X) → order x y ≡ Equal → x ≡ y) → (xs ys : List X)
    → IsPermutation xs ys → IsSorted order ys → ys ≡ sorted order xs
one_in_order order o ties xs ys h k =
    same_list order o ties ys (sorted order xs) (rises order o ys k) (rises_sorted order o xs) (λ z. times_permutation order z xs ys h ∙ sym (times_permutation order z xs (sorted order xs) (permutation_sorted order xs)))

inserted_first : {X : Type 0} (order : X → X → Ordering) (x : X) (ys : List X) → NoneBelow order x ys → sorted_with order x ys ≡ x ∷ ys
inserted_first order x [] h = refl
inserted_first order x (y ∷ ys) h = ap (λ b. if b then y ∷ sorted_with order x ys else x ∷ y ∷ ys) h.0

-- sorting puts an element first if no other element is below it
pub sorted_least : {X : Type 0} (order : X → X → Ordering) (x : X) (xs : List X) → NoneBelow order x xs → sorted order (x ∷ xs) ≡ x ∷ sorted order xs
sorted_least order x xs h = inserted_first order x (sorted order xs) (all_sorted order (λ y. is_gt (order x y) ≡ false) xs h)
