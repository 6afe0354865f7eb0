-- A collection stands for a sorted list without ties, in which keys are looked up, as in a sorted map.
-- A key is compared to an element by `against`: `Less` if the key is below the element.
use Rattle.std.specs.Prelude.{◌≡◌, false, List, [], ◌∷◌, ◌++◌, Option, Some, None, refl}
use Rattle.std.specs.Cmp.{IsTotalOrder}
use Rattle.std.specs.List.{filter, AllByRecursion}
use Rattle.std.specs.Ordering.{is_eq, is_lt, is_gt, is_ge}
use Rattle.std.specs.declared.cmp.Ordering.{Ordering}
use Rattle.std.specs.declared.cmp.Ordering.TheVariants.{Less, Equal, Greater}
use Rattle.std.proofs.Common.{◌∙◌, ap}

-- each element is below all that come after it
abbrev pub Ascends : {T : Type 0} → (T → T → Ordering) → List T → Type 0
Ascends order [] = Unit {0}
Ascends order (x ∷ xs) = AllByRecursion (λ y. order x y ≡ Less) xs × Ascends order xs

-- the elements below a key
abbrev pub below : {T : Type 0} → (T → Ordering) → List T → List T
below against xs = filter (λ x. is_gt (against x)) xs

-- the elements above a key
abbrev pub above : {T : Type 0} → (T → Ordering) → List T → List T
above against xs = filter (λ x. is_lt (against x)) xs

-- the elements that are not above a key
abbrev pub upto : {T : Type 0} → (T → Ordering) → List T → List T
upto against xs = filter (λ x. is_ge (against x)) xs

-- the first of a list, if there is one
abbrev pub first_of_list : {T : Type 0} → List T → Option T
first_of_list [] = None
first_of_list (x ∷ xs) = Some x

-- the element that ties with a key, if there is one
abbrev pub found : {T : Type 0} → (T → Ordering) → List T → Option T
found against xs = first_of_list (filter (λ x. is_eq (against x)) xs)

-- the list with x inserted, which replaces an element that ties
abbrev pub inserted : {T : Type 0} → (T → T → Ordering) → T → List T → List T
inserted order x xs = below (order x) xs ++ x ∷ above (order x) xs

-- the list without the element that ties with a key, if there is one
abbrev pub removed : {T : Type 0} → (T → Ordering) → List T → List T
removed against xs = below against xs ++ above against xs

-- a key has one place in the order: if it is not above an element, it is below all elements above that one
abbrev pub IsProbe : {T : Type 0} → (T → T → Ordering) → (T → Ordering) → Type 0
IsProbe {T} order against = (x y : T) → order x y ≡ Less → is_gt (against x) ≡ false → against y ≡ Less

-- the result of a comparison once the key is moved just past the element that it ties with: a tie becomes `Greater`
abbrev pub over : Ordering → Ordering
over Less = Less
over Equal = Greater
over Greater = Greater

-- ---- which values are keys

probe_cases : {T : Type 0} {order : T → T → Ordering} → IsTotalOrder order → (a x y : T) (r : Ordering) → order a x ≡ r → order x y ≡ Less → is_gt r ≡ false → order a y ≡ Less
probe_cases o a x y Less e l n = o.trans a x y e l
probe_cases o a x y Equal e l n = o.congr a x y e ∙ l
probe_cases o a x y Greater e l n = cc

-- an element is a key
pub probe_from_total : {T : Type 0} {order : T → T → Ordering} → IsTotalOrder order → (a : T) → IsProbe order (order a)
probe_from_total {T} {order} o a = λ x y l n. probe_cases o a x y (order a x) refl l n

-- a value that is compared to a part of each element is a key
pub probe_through : {T K : Type 0} {order : K → K → Ordering} → IsTotalOrder order → (part : T → K) (k : K) → IsProbe (λ x y. order (part x) (part y)) (λ x. order k (part x))
probe_through o part k = λ x y l n. probe_from_total o k (part x) (part y) l n

not_above_over : (r : Ordering) → is_gt (over r) ≡ false → is_gt r ≡ false
not_above_over Less n = n
not_above_over Equal n = cc
not_above_over Greater n = n

-- a key that is moved just past the element that it ties with is a key
pub probe_over : {T : Type 0} (order : T → T → Ordering) (against : T → Ordering) → IsProbe order against → IsProbe order (λ x. over (against x))
probe_over order against p = λ x y l n. ap over (p x y l (not_above_over (against x) n))
