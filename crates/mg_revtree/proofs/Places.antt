-- Where leaves are among others, best first.
use Rattle.std.proofs.Common.{◌≡◌, ◌∙◌, ℕ, zero, suc, ◌+◌, ◌-◌, ◌<◌, ◌≤◌, Bool, true, false, not, is_some, List, [], ◌∷◌, Option, Some, None, Result, Ok, Err, IfOk, IfErr, IfSome, IfNone, length, length-drop, get_or, map, drop, filter, inl, inr, refl, ap, sym, subst, arith, nat_lt}
use Rattle.std.specs.List.{HoldsAt, insert, remove}
use Rattle.std.specs.List.Sorted.{IsBinarySearchResult, IsNonDecreasingBy, IsPartitionPoint, IsSearchInRange}
use Rattle.std.specs.Ordering.{ordering_index, ordering_reverse}
use Rattle.std.specs.declared.cmp.Ordering.{Ordering}
use Rattle.std.specs.declared.cmp.Ordering.TheVariants.{Less, Equal, Greater}
use Rattle.std.proofs.lemmas.Bool.Decides.{nat_tests}
use Rattle.std.proofs.lemmas.List.{drop_more}
use Rattle.mg_value.specs.Value.{Value}
use Rattle.mg_revtree.specs.Revision.{Revision, run_from, same_revision}
use Rattle.mg_revtree.specs.History.{Leaf, has_child, leaf_order, links, ranked_with}
use Rattle.mg_revtree.specs.Tree.{AreApart, AreRanked, BeforeAll, leaf_in}
use Rattle.mg_revtree.specs.Steps.{IsBetween, IsLeafAt, IsTied, marked_as}
use Rattle.mg_revtree.proofs.Same.{two, same_is, same_refl}
use Rattle.mg_revtree.proofs.Ranks.{leaf_total, tied_same}

-- ---- a search

before_at : (l : Leaf) (ls : List Leaf) (i : ℕ) (d : Leaf) → i < length ls → BeforeAll l ls → leaf_order (get_or ls i d) l ≡ Less
before_at l [] i d lt h = absurd (omega arith)
before_at l (x ∷ ls) zero d lt h = h.0
before_at l (x ∷ ls) (suc i) d lt h = before_at l ls i d (omega arith) h.1

ranked_at : (ls : List Leaf) (i j : ℕ) (d : Leaf) → i < j → j < length ls → AreRanked ls → leaf_order (get_or ls j d) (get_or ls i d) ≡ Less
ranked_at [] i j d lt within h = absurd (omega arith)
ranked_at (x ∷ ls) i zero d lt within h = absurd (omega arith)
ranked_at (x ∷ ls) zero (suc j) d lt within h = before_at x ls j d (omega arith) h.0
ranked_at (x ∷ ls) (suc i) (suc j) d lt within h = ranked_at ls i j d (omega arith) (omega arith) h.1

-- if b is worse than a, the order of k against b is not less than that against a
rises : (k a b : Leaf) → leaf_order b a ≡ Less → ordering_index (leaf_order k a) ≤ ordering_index (leaf_order k b)
rises k a b lt = go (leaf_order k a) refl
  where
    go : (o : Ordering) → leaf_order k a ≡ o → ordering_index (leaf_order k a) ≤ ordering_index (leaf_order k b)
    go Less e = rw e (omega arith)
    go Equal e =
        let f : leaf_order k b ≡ Greater = leaf_total.congr k a b e ∙ leaf_total.antisymm a b ∙ ap ordering_reverse lt in
        rw (e, f) (omega arith)
    go Greater e =
        let g : leaf_order a k ≡ Less = leaf_total.antisymm a k ∙ ap ordering_reverse e in
        let f : leaf_order k b ≡ Greater = leaf_total.antisymm k b ∙ ap ordering_reverse (leaf_total.trans b a k lt g) in
        rw (e, f) (omega arith)

rising : (k : Leaf) (ls : List Leaf) → AreRanked ls → IsNonDecreasingBy (λ (x : Leaf). ordering_index (leaf_order k x)) ls
rising k ls h i j d le within = elim (two (nat_lt i j)) [
  | inl t ↦ let lt : i < j = grind (arith, nat_tests) in rises k (get_or ls i d) (get_or ls j d) (ranked_at ls i j d lt within h)
  | inr n ↦ let e : i ≡ j = grind (arith, nat_tests) in rw e (omega arith)
]

tied_found : (k : Leaf) (ls : List Leaf) (i : ℕ) → i < length ls → HoldsAt (λ (x : Leaf). leaf_order k x ≡ Equal) ls i → IsTied k ls i
tied_found k [] i lt h = absurd (omega arith)
tied_found k (x ∷ ls) zero lt h = h x
tied_found k (x ∷ ls) (suc i) lt h = tied_found k ls i (omega arith) (λ d. h d)

all_worse : (k : Leaf) (ls : List Leaf) → ((j : ℕ) (d : Leaf) → j < length ls → leaf_order k (get_or ls j d) ≡ Greater) → BeforeAll k ls
all_worse k [] h = tt
all_worse k (x ∷ ls) h = (leaf_total.antisymm x k ∙ ap ordering_reverse (h 0 x (omega arith)), all_worse k ls (λ j d lt. h (suc j) d (omega arith)))

between_found : (k : Leaf) (ls : List Leaf) (i : ℕ) → i ≤ length ls → IsPartitionPoint (λ (x : Leaf). leaf_order k x ≡ Less) (λ (x : Leaf). leaf_order k x ≡ Greater) ls i → IsBetween k ls i
between_found k ls zero le h = all_worse k ls (λ j d lt. h.1 j d (omega arith) lt)
between_found k [] (suc i) le h = absurd (omega arith)
between_found k (x ∷ ls) (suc i) le h =
    (h.0 0 x (omega arith) (omega arith), between_found k ls i (omega arith) (λ j d lo hi. h.0 (suc j) d (omega arith) (omega arith), λ j d lo hi. h.1 (suc j) d (omega arith) (omega arith)))

-- a binary search finds the place of a leaf that ties with k, or the place where k goes
pub sought : (k : Leaf) (ls : List Leaf) (o : Result ℕ ℕ) → IsSearchInRange o (length ls) → IsBinarySearchResult (λ (x : Leaf). leaf_order k x) ls o → IfOk o (λ i. (i < length ls) × IsTied k ls i) × IfErr o (λ i. (i ≤ length ls) × (AreRanked ls → IsBetween k ls i))
sought k ls (Ok i) bound by = ((bound, tied_found k ls i bound by), tt)
sought k ls (Err i) bound by = (tt, (bound, λ h. between_found k ls i bound (by (rising k ls h))))

-- ---- the leaf of a revision

-- a leaf that ties with k has the revision of k
pub tied_at : (k : Leaf) (ls : List Leaf) (i : ℕ) → IsTied k ls i → IsLeafAt k.rev ls i
tied_at k [] i h = absurd h
tied_at k (l ∷ ls) zero h = tied_same k l h
tied_at k (l ∷ ls) (suc i) h = tied_at k ls i h

tie : (d : Bool) (r : Revision) (l : Leaf) → l.rev ≡ r → l.deleted ≡ d → leaf_order (marked_as d r) l ≡ leaf_order l l
tie d r l e f = rw (sym e, sym f) refl

self_equal : (l : Leaf) → (o : Ordering) → leaf_order l l ≡ o → o ≡ Equal
self_equal l Less e = absurd (let g : leaf_order l l ≡ Greater = leaf_total.antisymm l l ∙ ap ordering_reverse e in cc)
self_equal l Equal e = refl
self_equal l Greater e = absurd (let g : leaf_order l l ≡ Less = leaf_total.antisymm l l ∙ ap ordering_reverse e in cc)

-- if k goes before a place, no leaf ties with it
no_tie : (k l : Leaf) (ls : List Leaf) (i : ℕ) → IsBetween k (l ∷ ls) i → leaf_order k l ≡ Equal → ⊥
no_tie k l ls zero h e = let g : leaf_order k l ≡ Greater = leaf_total.antisymm k l ∙ ap ordering_reverse h.0 in cc
no_tie k l ls (suc i) h e = let g : leaf_order k l ≡ Less = h.0 in cc

-- a leaf that goes into a list goes into its rest
rest_between : (k l : Leaf) (ls : List Leaf) (i : ℕ) → IsBetween k (l ∷ ls) i → (j : ℕ) × IsBetween k ls j
rest_between k l ls zero h = (zero, h.1)
rest_between k l ls (suc i) h = (i, h.1)

pub between_none : (r : Revision) (ls : List Leaf) (i j : ℕ) → IsBetween (marked_as false r) ls i → IsBetween (marked_as true r) ls j → leaf_in r ls ≡ None
between_none r [] i j h k = refl
between_none r (l ∷ ls) i j h k = elim (two (same_revision r l.rev)) [
  | inl t ↦
      let e : l.rev ≡ r = sym (same_is r l.rev t) in
      absurd (elim (two l.deleted) [
        | inl d ↦ no_tie (marked_as true r) l ls j k (tie true r l e d ∙ self_equal l (leaf_order l l) refl)
        | inr d ↦ no_tie (marked_as false r) l ls i h (tie false r l e d ∙ self_equal l (leaf_order l l) refl)
      ])
  | inr f ↦
      let a = rest_between (marked_as false r) l ls i h in
      let b = rest_between (marked_as true r) l ls j k in
      rw f (between_none r ls a.0 b.0 a.1 b.1)
]

pub at_some : (r : Revision) (ls : List Leaf) (i : ℕ) → IsLeafAt r ls i → is_some (leaf_in r ls) ≡ true
at_some r [] i h = absurd h
at_some r (l ∷ ls) zero h = rw h refl
at_some r (l ∷ ls) (suc i) h = elim (two (same_revision r l.rev)) [ inl t ↦ rw t refl | inr f ↦ rw f (at_some r ls i h) ]

-- ---- a leaf taken away

-- without a leaf of r, all leaves have other revisions
pub others_kept : (r : Revision) (ls : List Leaf) → leaf_in r ls ≡ None → ls ≡ filter (λ l. not (same_revision l.rev r)) ls
others_kept r [] none = refl
others_kept r (l ∷ ls) none = elim (two (same_revision r l.rev)) [
  | inl t ↦ absurd (let e : ◌≡◌ {A = Option (Bool × Value)} (Some (l.deleted, l.body)) None = rw t at none in cc)
  | inr f ↦
      let n : leaf_in r ls ≡ None = rw f at none in
      rw (back r l.rev f) (ap (λ xs. l ∷ xs) (others_kept r ls n))
]
  where
    back : (a b : Revision) → same_revision a b ≡ false → same_revision b a ≡ false
    back a b f = elim (two (same_revision b a)) [
      | inl t ↦ absurd (let e : b ≡ a = same_is b a t in let g : same_revision a b ≡ true = subst (λ (x : Revision). same_revision a x ≡ true) (sym e) (same_refl a) in cc)
      | inr t ↦ t
    ]

pub taken_away : (r : Revision) (ls : List Leaf) (i : ℕ) → IsLeafAt r ls i → AreApart ls → remove ls i ≡ filter (λ l. not (same_revision l.rev r)) ls
taken_away r [] i h apart = absurd h
taken_away r (l ∷ ls) zero h apart =
    let e : l.rev ≡ r = sym (same_is r l.rev h) in
    let t : same_revision l.rev r ≡ true = subst (λ (x : Revision). same_revision x r ≡ true) (sym e) (same_refl r) in
    let none : leaf_in r ls ≡ None = subst (λ (x : Revision). leaf_in x ls ≡ None) e apart.0 in
    rw t (others_kept r ls none)
taken_away r (l ∷ ls) (suc i) h apart = elim (two (same_revision l.rev r)) [
  | inl t ↦ absurd (let e : l.rev ≡ r = same_is l.rev r t in let none : leaf_in r ls ≡ None = subst (λ (x : Revision). leaf_in x ls ≡ None) e apart.0 in let some = at_some r ls i h in let f : is_some (leaf_in r ls) ≡ false = ap is_some none in cc)
  | inr f ↦ rw f (ap (λ xs. l ∷ xs) (taken_away r ls i h apart.1))
]

-- ---- the parents of a run taken away

-- to remove the parents of a run is to remove its first parent, and then those of the rest
parents_of : (n : ℕ) (a b : List ℕ) (ids : List (List ℕ)) (ls : List Leaf) → filter (λ l. not (has_child l.rev (links (run_from n (a ∷ b ∷ ids))))) ls ≡ filter (λ l. not (has_child l.rev (links (run_from (n - 1) (b ∷ ids))))) (filter (λ l. not (same_revision l.rev (n - 1, b))) ls)
parents_of n a b ids [] = refl
parents_of n a b ids (l ∷ ls) = elim (two (same_revision l.rev (n - 1, b))) [
  | inl t ↦ rw t (parents_of n a b ids ls)
  | inr f ↦ elim (two (has_child l.rev (links (run_from (n - 1) (b ∷ ids))))) [
    | inl t ↦ rw (f, t) (parents_of n a b ids ls)
    | inr g ↦ rw (f, g) (ap (λ xs. l ∷ xs) (parents_of n a b ids ls))
  ]
]

pub parents_at : {X : Type 0} (f : X → List ℕ) (n i : ℕ) (xs : List X) (x : X) (ls : List Leaf) → 1 ≤ i → i < length xs → x ≡ get_or xs i x → filter (λ l. not (has_child l.rev (links (run_from n (map f (drop (i - 1) xs)))))) ls ≡ filter (λ l. not (has_child l.rev (links (run_from (n - 1) (map f (drop i xs)))))) (filter (λ l. not (same_revision l.rev (n - 1, f x))) ls)
parents_at {X} f n i xs x ls some lt is =
    let on : i - 1 + 1 ≡ i = omega arith in
    let one : drop (i - 1) xs ≡ get_or xs (i - 1) x ∷ drop i xs = drop_more xs (i - 1) x (omega arith) ∙ ap (λ (k : ℕ). get_or xs (i - 1) x ∷ drop k xs) on in
    let next : drop i xs ≡ x ∷ drop (i + 1) xs = drop_more xs i x lt ∙ ap (λ (y : X). y ∷ drop (i + 1) xs) (sym is) in
    rw (one, next) (parents_of n (f (get_or xs (i - 1) x)) (f x) (map f (drop (i + 1) xs)) ls)

-- a run of one revision has no parents
no_parents : (n : ℕ) (ids : List (List ℕ)) (ls : List Leaf) → length ids ≤ 1 → filter (λ l. not (has_child l.rev (links (run_from n ids)))) ls ≡ ls
no_parents n ids [] le = refl
no_parents n [] (l ∷ ls) le = ap (λ xs. l ∷ xs) (no_parents n [] ls le)
no_parents n (a ∷ []) (l ∷ ls) le = ap (λ xs. l ∷ xs) (no_parents n (a ∷ []) ls le)
no_parents n (a ∷ b ∷ ids) (l ∷ ls) le = absurd (omega arith)

length-map : {X : Type 0} (f : X → List ℕ) (xs : List X) → length (map f xs) ≡ length xs
length-map f [] = refl
length-map f (x ∷ xs) = rw (length-map f xs) refl

pub parents_done : {X : Type 0} (f : X → List ℕ) (n i : ℕ) (xs : List X) (ls : List Leaf) → 1 ≤ i → length xs ≤ i → filter (λ l. not (has_child l.rev (links (run_from n (map f (drop (i - 1) xs)))))) ls ≡ ls
parents_done f n i xs ls some past = no_parents n (map f (drop (i - 1) xs)) ls (omega (arith, length-map f (drop (i - 1) xs), length-drop (i - 1) xs))

-- ---- a leaf added

pub not_tied_at : (l : Leaf) (ls : List Leaf) (i : ℕ) → leaf_in l.rev ls ≡ None → IsTied l ls i → ⊥
not_tied_at l ls i none h = let some = at_some l.rev ls i (tied_at l ls i h) in let f : is_some (leaf_in l.rev ls) ≡ false = ap is_some none in cc

pub put_between : (l : Leaf) (ls : List Leaf) (i : ℕ) → IsBetween l ls i → insert ls i l ≡ ranked_with l ls
put_between l [] zero h = refl
put_between l (m ∷ ls) zero h = let g : leaf_order l m ≡ Greater = leaf_total.antisymm l m ∙ ap ordering_reverse h.0 in rw g refl
put_between l [] (suc i) h = absurd h
put_between l (m ∷ ls) (suc i) h = rw h.0 (ap (λ xs. m ∷ xs) (put_between l ls i h.1))

-- a search for a revision's leaf finds a place exactly if the revision is a leaf
pub found_if_leaf : (r : Revision) (ls : List Leaf) (o : Option ℕ) → IfSome o (λ i. (i < length ls) × IsLeafAt r ls i) → IfNone o (AreRanked ls → leaf_in r ls ≡ None) → AreRanked ls → is_some o ≡ is_some (leaf_in r ls)
found_if_leaf r ls None found absent h = sym (ap is_some (absent h))
found_if_leaf r ls (Some i) found absent h = sym (at_some r ls i found.1)
