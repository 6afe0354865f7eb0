-- How many elements children have, and how many of them are below a key.
use Rattle.std.proofs.Common.{◌≡◌, ℕ, ◌+◌, ◌<◌, ◌≤◌, List, ◌++◌, length, take, drop, get_or, Bool, true, false, not, is_some, Ordering, Less, Equal, Greater, is_gt, is_lt, refl, sym, ap, ◌∙◌, arith}
use Rattle.std.proofs.lemmas.List.{length-append}
use Rattle.std.proofs.lemmas.List.Filters.{length-filter_both}
use Rattle.std.specs.Cmp.{IsTotalOrder}
use Rattle.mg_pages.specs.Order.{Ascends, above, below, found, inserted, over}
use Rattle.mg_pages.specs.Search.{AllAbove, AllBelow}
use Rattle.mg_pages.specs.Subtree.{Subtree, elements_of}
use Rattle.mg_pages.proofs.Levels.{child_below, elements_cut, elements_split, elements_take_more}
use Rattle.mg_pages.proofs.Sorted.{inserted_new, inserted_over}

module _ {T : Type 0} (ts : List (Subtree T)) where
  pub count_cut : (k : ℕ) → length (elements_of ts) ≡ length (elements_of (take k ts)) + length (elements_of (drop k ts))
  count_cut k = sym (ap length (elements_cut ts k)) ∙ length-append (elements_of (take k ts)) (elements_of (drop k ts))

  module _ (i : ℕ) (t : Subtree T) (l : i < length ts) (e : t ≡ get_or ts i t) where
    pub count_more : length (elements_of (take (i + 1) ts)) ≡ length (elements_of (take i ts)) + length t.elements
    count_more = ap length (elements_take_more ts i t l e) ∙ length-append (elements_of (take i ts)) t.elements

    -- the children up to the i-th have no more elements than all children
    pub count_within : length (elements_of (take i ts)) + length t.elements ≤ length (elements_of ts)
    count_within =
        let n = ap length (elements_split ts i t l e) in
        omega (arith, n, length-append (elements_of (take i ts)) (t.elements ++ elements_of (drop (i + 1) ts)), length-append t.elements (elements_of (drop (i + 1) ts)))

    -- the elements below a key are all before its child, and those of its child that are below the key
    pub count_below_children : (against : T → Ordering) → AllBelow against (elements_of (take i ts)) → AllAbove against (elements_of (drop (i + 1) ts))
        → length (below against (elements_of ts)) ≡ length (elements_of (take i ts)) + length (below against t.elements)
    count_below_children against low high =
        ap length (child_below ts i t l e against low high) ∙ length-append (elements_of (take i ts)) (below against t.elements)

pub count_of_below : {T : Type 0} (against : T → Ordering) (xs : List T) → length (below against xs) ≤ length xs
count_of_below against xs = omega (arith, length-filter_both (λ x. is_gt (against x)) (λ x. not (is_gt (against x))) (λ x. refl) xs)

below_over : (r : Ordering) → is_lt r ≡ not (is_gt (over r))
below_over Less = refl
below_over Equal = refl
below_over Greater = refl

-- each element is above a key, or is not
pub count_over : {T : Type 0} (against : T → Ordering) (xs : List T) → length (below (λ x. over (against x)) xs) + length (above against xs) ≡ length xs
count_over against xs = length-filter_both (λ x. is_gt (over (against x))) (λ x. is_lt (against x)) (λ x. below_over (against x)) xs

-- the count after an insertion
pub count_put : {T : Type 0} (order : T → T → Ordering) → IsTotalOrder order → (x : T) (xs ys : List T) (had : Bool) (more result : ℕ) → Ascends order xs → ys ≡ inserted order x xs
    → had ≡ is_some (found (order x) xs) → more ≡ length xs + 1 → (had ≡ true → result + 1 ≡ more) → (had ≡ false → result ≡ more) → result ≡ length ys
count_put order o x xs ys true more result s e h m one new = omega (arith, ap length e, inserted_over order o x xs s (sym h), m, one refl)
count_put order o x xs ys false more result s e h m one new = omega (arith, ap length e, inserted_new order o x xs s (sym h), m, new refl)
