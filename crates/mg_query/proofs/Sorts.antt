-- Sorting, and maps and filters of a list that is sorted.
use Rattle.std.proofs.Common.{◌≡◌, ◌+◌, Bool, true, false, ◌&&◌, List, [], ◌∷◌, map, cond, Ordering, is_eq, is_gt, refl, sym, ap, ◌∙◌}
use Rattle.std.specs.Cmp.{IsTotalOrder}
use Rattle.std.specs.List.{AllByRecursion, filter}
use Rattle.std.specs.declared.cmp.Ordering.TheVariants.{Equal}
use Rattle.std.specs.List.Sorted.{IsPermutation}
use Rattle.std.proofs.lemmas.List.Recursion.{is_count_by}
use Rattle.std.proofs.lemmas.List.Sorted.{sum_by-IsPermutation}
use Rattle.mg_collate.specs.Sorted.{sorted_with, sorted}
use Rattle.mg_collate.proofs.Sorting.{Rises, times, rises_sorted, permutation_sorted, times_permutation, same_list}

-- ---- maps of sorted elements

map_chosen : {X Y : Type 0} (f : X → Y) (b : Bool) (xs ys : List X) → map f (cond b xs ys) ≡ cond b (map f xs) (map f ys)
map_chosen f true xs ys = refl
map_chosen f false xs ys = refl

map_inserted : {X Y : Type 0} (f : X → Y) (order : Y → Y → Ordering) (x : X) (xs : List X) → map f (sorted_with (λ a b. order (f a) (f b)) x xs) ≡ sorted_with order (f x) (map f xs)
map_inserted f order x [] = refl
map_inserted f order x (y ∷ ys) =
    map_chosen f (is_gt (order (f x) (f y))) (y ∷ sorted_with (λ a b. order (f a) (f b)) x ys) (x ∷ y ∷ ys)
    ∙ ap (λ zs. cond (is_gt (order (f x) (f y))) (f y ∷ zs) (f x ∷ f y ∷ map f ys)) (map_inserted f order x ys)

-- to sort by f and then map f is to map f and then sort
pub map_sorted : {X Y : Type 0} (f : X → Y) (order : Y → Y → Ordering) (xs : List X) → map f (sorted (λ a b. order (f a) (f b)) xs) ≡ sorted order (map f xs)
map_sorted f order [] = refl
map_sorted f order (x ∷ xs) = map_inserted f order x (sorted (λ a b. order (f a) (f b)) xs) ∙ ap (sorted_with order (f x)) (map_sorted f order xs)

-- to filter by f and then map f is to map f and then filter
pub map_filter : {X Y : Type 0} (f : X → Y) (p : Y → Bool) (xs : List X) → map f (filter (λ x. p (f x)) xs) ≡ filter p (map f xs)
map_filter f p [] = refl
map_filter f p (x ∷ xs) = map_chosen f (p (f x)) (x ∷ filter (λ y. p (f y)) xs) (filter (λ y. p (f y)) xs) ∙ ap (λ ys. cond (p (f x)) (f x ∷ ys) ys) (map_filter f p xs)

-- ---- filters of sorted elements

pub all_kept : {X : Type 0} (P : X → Type 0) (p : X → Bool) (xs : List X) → AllByRecursion P xs → AllByRecursion P (filter p xs)
all_kept P p [] h = tt
all_kept P p (x ∷ xs) h = elim (p x) as (λ b. AllByRecursion P (cond b (x ∷ filter p xs) (filter p xs))) [ true ↦ (h.0, all_kept P p xs h.1) | false ↦ all_kept P p xs h.1 ]

pub rises_kept : {X : Type 0} (order : X → X → Ordering) (p : X → Bool) (xs : List X) → Rises order xs → Rises order (filter p xs)
rises_kept order p [] h = tt
rises_kept order p (x ∷ xs) h =
    elim (p x) as (λ b. Rises order (cond b (x ∷ filter p xs) (filter p xs))) [
      | true ↦ (all_kept (λ y. is_gt (order x y) ≡ false) p xs h.0, rises_kept order p xs h.1)
      | false ↦ rises_kept order p xs h.1
    ]

times_chosen : {X : Type 0} (order : X → X → Ordering) (z y : X) (ys : List X) (b : Bool) → times order z (cond b (y ∷ ys) ys) ≡ cond (b && is_eq (order z y)) (1 + times order z ys) (times order z ys)
times_chosen order z y ys true = refl
times_chosen order z y ys false = refl

-- how often an element is among those that are kept does not depend on the order of the list
times_kept : {X : Type 0} (order : X → X → Ordering) (p : X → Bool) (z : X) (xs ys : List X) → IsPermutation xs ys → times order z (filter p ys) ≡ times order z (filter p xs)
times_kept order p z xs ys h =
    let counted = is_count_by (λ zs. times order z (filter p zs)) (λ y. p y && is_eq (order z y)) refl (λ y zs. times_chosen order z y (filter p zs) (p y)) in
    counted ys ∙ sum_by-IsPermutation (λ y. cond (p y && is_eq (order z y)) 1 0) xs ys h ∙ sym (counted xs)

-- to keep some of the sorted elements is to sort those that are kept
pub filter_sorted : {X : Type 0} (order : X → X → Ordering) → IsTotalOrder order → ((x y : X) → order x y ≡ Equal → x ≡ y) → (p : X → Bool) (xs : List X)
    → filter p (sorted order xs) ≡ sorted order (filter p xs)
filter_sorted order o ties p xs =
    same_list order o ties (filter p (sorted order xs)) (sorted order (filter p xs)) (rises_kept order p (sorted order xs) (rises_sorted order o xs)) (rises_sorted order o (filter p xs))
    (λ z. times_kept order p z xs (sorted order xs) (permutation_sorted order xs) ∙ sym (times_permutation order z (filter p xs) (sorted order (filter p xs)) (permutation_sorted order (filter p xs))))
