-- What a link put into the kept links changes.
use Rattle.std.proofs.Common.{◌≡◌, ℕ, zero, suc, ◌<◌, ◌≤◌, false, Some, None, List, [], ◌∷◌, inl, inr, Result, Ok, Err, IfOk, IfErr, nat_lt, length, get_or, map, set, refl, ap, sym, ◌∙◌, subst, arith}
use Rattle.std.specs.List.{insert, HoldsAt}
use Rattle.std.specs.List.Sorted.{IsBinarySearchResult, IsNonDecreasingBy, IsPartitionPoint, IsSearchInRange}
use Rattle.std.specs.Ordering.{is_eq, ordering_index, ordering_reverse}
use Rattle.std.specs.declared.cmp.Ordering.{Ordering}
use Rattle.std.specs.declared.cmp.Ordering.TheVariants.{Less, Equal, Greater}
use Rattle.std.proofs.lemmas.Bool.Decides.{nat_tests}
use Rattle.mg_revtree.specs.Revision.{Revision, revision_order, same_revision}
use Rattle.std.specs.Option.{option_or}
use Rattle.mg_revtree.specs.History.{Link}
use Rattle.mg_revtree.specs.Tree.{find, IsBelow, AreSorted}
use Rattle.mg_revtree.specs.Steps.{put, IsLinkAt, BelongsAt}
use Rattle.mg_revtree.proofs.Same.{two, same_is, apart, revision_total, less_apart, equal_same}

-- ---- links in order

-- the items of a list, each with its link
module _ {A : Type 0} (f : A → Link) where
  -- a revision less than all is less than the one at place i
  pub below_at : (r : Revision) (xs : List A) (i : ℕ) (d : A) → i < length xs → IsBelow r (map f xs) → revision_order r (f (get_or xs i d)).rev ≡ Less
  below_at r [] i d lt h = absurd (omega arith)
  below_at r (x ∷ xs) zero d lt h = h.0
  below_at r (x ∷ xs) (suc i) d lt h = below_at r xs i d (omega arith) h.1

  pub sorted_at : (xs : List A) (i j : ℕ) (d : A) → i < j → j < length xs → AreSorted (map f xs) → revision_order (f (get_or xs i d)).rev (f (get_or xs j d)).rev ≡ Less
  sorted_at [] i j d lt within h = absurd (omega arith)
  sorted_at (x ∷ xs) i zero d lt within h = absurd (omega arith)
  sorted_at (x ∷ xs) zero (suc j) d lt within h = below_at (f x).rev xs j d (omega arith) h.0
  sorted_at (x ∷ xs) (suc i) (suc j) d lt within h = sorted_at xs i j d (omega arith) (omega arith) h.1

index_small : (o : Ordering) → ordering_index o ≤ 2
index_small Less = omega arith
index_small Equal = omega arith
index_small Greater = omega arith

-- if a is less than b, its order against r is not greater than that of b
index_rises : (a b r : Revision) → revision_order a b ≡ Less → ordering_index (revision_order a r) ≤ ordering_index (revision_order b r)
index_rises a b r lt = go (revision_order b r) refl
  where
    go : (o : Ordering) → revision_order b r ≡ o → ordering_index (revision_order a r) ≤ ordering_index (revision_order b r)
    go Less e = let f : revision_order a r ≡ Less = revision_total.trans a b r lt e in rw (e, f) (omega arith)
    go Equal e =
        let s : r ≡ b = same_is r b (equal_same b r e) in
        let f : revision_order a r ≡ Less = subst (λ (x : Revision). revision_order a x ≡ Less) (sym s) lt in
        rw (e, f) (omega arith)
    go Greater e = rw e (index_small (revision_order a r))

module _ {A : Type 0} (f : A → Link) where
  -- along links in order, the order against a revision never falls
  pub rising : (xs : List A) (r : Revision) → AreSorted (map f xs) → IsNonDecreasingBy (λ (x : A). ordering_index (revision_order (f x).rev r)) xs
  rising xs r h i j d le within = elim (two (nat_lt i j)) [
    | inl t ↦ let lt : i < j = grind (arith, nat_tests) in index_rises (f (get_or xs i d)).rev (f (get_or xs j d)).rev r (sorted_at f xs i j d lt within h)
    | inr n ↦ let e : i ≡ j = grind (arith, nat_tests) in rw e (omega arith)
  ]

  -- an item whose revision is r is at the place of r
  pub place_found : (r : Revision) (xs : List A) (i : ℕ) → i < length xs → AreSorted (map f xs) → HoldsAt (λ (x : A). revision_order (f x).rev r ≡ Equal) xs i → IsLinkAt r (map f xs) i
  place_found r [] i lt s h = absurd (omega arith)
  place_found r (x ∷ xs) zero lt s h = equal_same (f x).rev r (h x)
  place_found r (x ∷ xs) (suc i) lt s h =
      let e : r ≡ (f (get_or xs i x)).rev = same_is r (f (get_or xs i x)).rev (equal_same (f (get_or xs i x)).rev r (h x)) in
      let b : revision_order (f x).rev r ≡ Less = subst (λ (q : Revision). revision_order (f x).rev q ≡ Less) (sym e) (below_at f (f x).rev xs i x (omega arith) s.0) in
      (less_apart (f x).rev r b, place_found r xs i (omega arith) s.1 (λ d. h d))

  above_all : (r : Revision) (xs : List A) → ((k : ℕ) (d : A) → k < length xs → revision_order (f (get_or xs k d)).rev r ≡ Greater) → IsBelow r (map f xs)
  above_all r [] h = tt
  above_all r (x ∷ xs) h = (revision_total.antisymm r (f x).rev ∙ ap ordering_reverse (h 0 x (omega arith)), above_all r xs (λ k d lt. h (suc k) d (omega arith)))

  -- r goes before the place that parts the lesser links from the greater ones
  pub gap_found : (r : Revision) (xs : List A) (i : ℕ) → i ≤ length xs → IsPartitionPoint (λ (x : A). revision_order (f x).rev r ≡ Less) (λ (x : A). revision_order (f x).rev r ≡ Greater) xs i → BelongsAt r (map f xs) i
  gap_found r xs zero le h = above_all r xs (λ k d lt. h.1 k d (omega arith) lt)
  gap_found r [] (suc i) le h = absurd (omega arith)
  gap_found r (x ∷ xs) (suc i) le h =
      (h.0 0 x (omega arith) (omega arith), gap_found r xs i (omega arith) (λ k d lo hi. h.0 (suc k) d (omega arith) (omega arith), λ k d lo hi. h.1 (suc k) d (omega arith) (omega arith)))

  -- a binary search finds the place of r, or the gap where r goes
  pub searched : (r : Revision) (xs : List A) (o : Result ℕ ℕ) → IsSearchInRange o (length xs) → IsBinarySearchResult (λ (x : A). revision_order (f x).rev r) xs o → IfOk o (λ i. (i < length xs) × (AreSorted (map f xs) → IsLinkAt r (map f xs) i)) × IfErr o (λ i. (i ≤ length xs) × (AreSorted (map f xs) → BelongsAt r (map f xs) i))
  searched r xs (Ok i) bound by = ((bound, λ s. place_found r xs i bound s by), tt)
  searched r xs (Err i) bound by = (tt, (bound, λ s. gap_found r xs i bound (by (rising xs r s))))

pub below_none : (r : Revision) (ls : List Link) → IsBelow r ls → find r ls ≡ None
below_none r [] h = refl
below_none r (l ∷ ls) h = let e : same_revision r l.rev ≡ false = ap is_eq (h.0) in rw e (below_none r ls h.1)

-- a revision for which there is a gap is not found
pub gap_none : (r : Revision) (ls : List Link) (i : ℕ) → BelongsAt r ls i → find r ls ≡ None
gap_none r ls zero h = below_none r ls h
gap_none r [] (suc i) h = absurd h
gap_none r (l ∷ ls) (suc i) h = rw (less_apart l.rev r h.0) (gap_none r ls i h.1)

below_insert : (a : Revision) (l : Link) (ls : List Link) (i : ℕ) → revision_order a l.rev ≡ Less → IsBelow a ls → IsBelow a (insert ls i l)
below_insert a l ls zero lt h = (lt, h)
below_insert a l [] (suc i) lt h = (lt, tt)
below_insert a l (y ∷ ls) (suc i) lt h = (h.0, below_insert a l ls i lt h.1)

pub sorted-insert : (l : Link) (ls : List Link) (i : ℕ) → BelongsAt l.rev ls i → AreSorted ls → AreSorted (insert ls i l)
sorted-insert l ls zero gap h = (gap, h)
sorted-insert l [] (suc i) gap h = absurd gap
sorted-insert l (y ∷ ls) (suc i) gap h = (below_insert y.rev l ls i gap.0 h.0, sorted-insert l ls i gap.1 h.1)

below_set : (a : Revision) (x y : Link) (ls : List Link) (i : ℕ) → x ≡ get_or ls i x → y.rev ≡ x.rev → IsBelow a ls → IsBelow a (set ls i y)
below_set a x y [] i is e h = tt
below_set a x y (l ∷ ls) zero is e h = (subst (λ (r : Revision). revision_order a r ≡ Less) (sym (e ∙ ap (λ (z : Link). z.rev) is)) h.0, h.1)
below_set a x y (l ∷ ls) (suc i) is e h = (h.0, below_set a x y ls i is e h.1)

pub sorted-set : (x y : Link) (ls : List Link) (i : ℕ) → x ≡ get_or ls i x → y.rev ≡ x.rev → AreSorted ls → AreSorted (set ls i y)
sorted-set x y [] i is e h = tt
sorted-set x y (l ∷ ls) zero is e h = (subst (λ (r : Revision). IsBelow r ls) (sym (e ∙ ap (λ (z : Link). z.rev) is)) h.0, h.1)
sorted-set x y (l ∷ ls) (suc i) is e h = (below_set l.rev x y ls i is e h.0, sorted-set x y ls i is e h.1)

-- ---- what is found

-- the parent of one more link is set at the place of its revision
pub find-set : (l x y : Link) (ls : List Link) (i : ℕ) → IsLinkAt l.rev ls i → x ≡ get_or ls i x → y ≡ record x { parent = option_or x.parent l.parent } → (r : Revision) → find r (set ls i y) ≡ put l r (find r ls)
find-set l x y [] i place is to r = absurd place
find-set l x y (z ∷ ls) zero place is to r =
    let e : l.rev ≡ z.rev = same_is l.rev z.rev place in
    let n : y ≡ record z { parent = option_or z.parent l.parent } = subst (λ (w : Link). y ≡ record w { parent = option_or w.parent l.parent }) is to in
    rw (n, e) (elim (two (same_revision r z.rev)) [ inl t ↦ rw t refl | inr f ↦ rw f refl ])
find-set l x y (z ∷ ls) (suc i) place is to r = elim (two (same_revision r z.rev)) [
  | inl t ↦ rw (t, apart r l.rev z.rev place.0 t) refl
  | inr f ↦ rw f (find-set l x y ls i place.1 is to r)
]

-- a link whose revision was unknown is inserted, at any place
pub find-insert : (l : Link) (ls : List Link) (i : ℕ) → find l.rev ls ≡ None → (r : Revision) → find r (insert ls i l) ≡ put l r (find r ls)
find-insert l ls zero none r = elim (two (same_revision r l.rev)) [
  | inl t ↦ let e : r ≡ l.rev = same_is r l.rev t in let n : find r ls ≡ None = rw e none in rw (t, n) refl
  | inr f ↦ rw f refl
]
find-insert l [] (suc i) none r = elim (two (same_revision r l.rev)) [ inl t ↦ rw t refl | inr f ↦ rw f refl ]
find-insert l (y ∷ ls) (suc i) none r =
    let p : same_revision l.rev y.rev ≡ false = grind arith in
    let n : find l.rev ls ≡ None = rw p at none in
    elim (two (same_revision r y.rev)) [
      | inl t ↦ rw (t, apart r l.rev y.rev p t) refl
      | inr f ↦ rw f (find-insert l ls i n r)
    ]

pub place_find : (r : Revision) (ls : List Link) (i : ℕ) (x : Link) → IsLinkAt r ls i → x ≡ get_or ls i x → find r ls ≡ Some x.parent
place_find r [] i x place is = absurd place
place_find r (y ∷ ls) zero x place is = let e : x.parent ≡ y.parent = ap (λ (z : Link). z.parent) is in rw (place, e) refl
place_find r (y ∷ ls) (suc i) x place is = rw (place.0) (place_find r ls i x place.1 is)

-- the link at the place of a revision has that revision
pub place_is : (r : Revision) (ls : List Link) (i : ℕ) (x : Link) → IsLinkAt r ls i → x ≡ get_or ls i x → x.rev ≡ r
place_is r [] i x place is = absurd place
place_is r (y ∷ ls) zero x place is = ap (λ (z : Link). z.rev) is ∙ sym (same_is r y.rev place)
place_is r (y ∷ ls) (suc i) x place is = place_is r ls i x place.1 is
