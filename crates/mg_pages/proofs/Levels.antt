-- The elements of the children of a level, and what a change in one child does to them.
use Rattle.std.proofs.Common.{◌≡◌, ℕ, ◌+◌, ◌<◌, ◌≤◌, zero, suc, List, [], ◌∷◌, ◌++◌, length, take, drop, get_or, set, Ordering, Greater, is_gt, false, refl, sym, ap, ◌∙◌, subst, arith, Result, Ok, Err, OnErr, append_assoc, append-nil}
use Rattle.std.proofs.lemmas.List.{append_cancel_left, drop_all, drop_more, length-append, length-take-le, take-append-drop, take_more}
use Rattle.std.proofs.lemmas.List.Concat.{flat_map-append}
use Rattle.std.proofs.lemmas.Grind.{common_steps}
use Rattle.mg_pages.specs.Order.{IsProbe, Ascends, above, below, inserted, removed, found}
use Rattle.mg_pages.specs.Search.{AllBelow, AllAbove, IsTie}
use Rattle.mg_pages.specs.Subtree.{IsLast, Subtree, elements_of, levels_of}
use Rattle.mg_pages.proofs.Lent.{empty_of_length}
use Rattle.mg_pages.proofs.Sorted.{above_cut, above_first, ascends_left, ascends_right, below_cut, below_last, found_cut, inserted_cut, removed_cut, set_is, split_at, take_one_more}

pub on_err_when : {T E P : Type 0} (r : Result T E) → P → OnErr r P
on_err_when (Ok x) p = tt
on_err_when (Err e) p = p

module _ {T : Type 0} where
  -- a child has fewer levels than a level with it
  pub levels_fall : (ts : List (Subtree T)) (i : ℕ) (t : Subtree T) → i < length ts → t ≡ get_or ts i t → t.levels < levels_of ts
  levels_fall [] i t l e = absurd (omega (arith, l))
  levels_fall (u ∷ us) zero t l e = omega (arith, ap (λ v. v.levels) e)
  levels_fall (u ∷ us) (suc i) t l e = omega (arith, levels_fall us i t (omega (arith, l)) e)

  pub elements_append : (ts us : List (Subtree T)) → elements_of (ts ++ us) ≡ elements_of ts ++ elements_of us
  elements_append ts us = flat_map-append (λ t. t.elements) ts us

  -- what was left to build from is one more child, and the rest
  pub elements_more : (ts us : List (Subtree T)) (t : Subtree T) (left rest all : List T) → us ≡ ts ++ t ∷ [] → left ≡ t.elements ++ rest → elements_of ts ++ left ≡ all → elements_of us ++ rest ≡ all
  elements_more ts us t left rest all e l h =
      ap (λ vs. elements_of vs ++ rest) e ∙ ap (λ vs. vs ++ rest) (elements_append ts (t ∷ []) ∙ ap (λ vs. elements_of ts ++ vs) (append-nil t.elements))
      ∙ append_assoc (elements_of ts) t.elements rest ∙ ap (λ vs. elements_of ts ++ vs) (sym l) ∙ h

  pub elements_cut : (ts : List (Subtree T)) (k : ℕ) → elements_of (take k ts) ++ elements_of (drop k ts) ≡ elements_of ts
  elements_cut ts k = sym (elements_append (take k ts) (drop k ts)) ∙ ap elements_of (take-append-drop k ts)

  -- the last element of the last child is the last of all
  pub last_of_end : (xs front ys : List T) (x : T) → xs ≡ front ++ ys → IsLast x ys → IsLast x xs
  last_of_end xs front ys x e it = record { front = front ++ it.front; is = e ∙ ap (λ us. front ++ us) it.is ∙ sym (append_assoc front it.front (x ∷ [])) }

  pub last_some : (x : T) (xs : List T) → IsLast x xs → 0 < length xs
  last_some x xs it = omega (arith, ap length it.is, length-append it.front (x ∷ []))

  module _ (ts : List (Subtree T)) (i : ℕ) (t : Subtree T) (l : i < length ts) (e : t ≡ get_or ts i t) where
    pub elements_split : elements_of ts ≡ elements_of (take i ts) ++ (t.elements ++ elements_of (drop (i + 1) ts))
    elements_split = ap elements_of (split_at ts i t l e) ∙ elements_append (take i ts) (t ∷ drop (i + 1) ts)

    pub elements_take_more : elements_of (take (i + 1) ts) ≡ elements_of (take i ts) ++ t.elements
    elements_take_more = ap elements_of (take_one_more ts i t l e) ∙ elements_append (take i ts) (t ∷ []) ∙ ap (λ xs. elements_of (take i ts) ++ xs) (append-nil t.elements)

    pub elements_from : elements_of (drop i ts) ≡ t.elements ++ elements_of (drop (i + 1) ts)
    elements_from = ap elements_of (drop_more ts i t l ∙ ap (λ q. q ∷ drop (i + 1) ts) (sym e))

    -- elements that were lent, and then those of one more child
    pub lent_more : (old before new : List T) → before ≡ old ++ elements_of (take i ts) → new ≡ before ++ t.elements → new ≡ old ++ elements_of (take (i + 1) ts)
    lent_more old before new h n =
        n ∙ ap (λ us. us ++ t.elements) h ∙ append_assoc old (elements_of (take i ts)) t.elements ∙ ap (λ us. old ++ us) (sym elements_take_more)

    -- the elements of one child ascend
    pub child_ascends : (order : T → T → Ordering) → Ascends order (elements_of ts) → Ascends order t.elements
    child_ascends order s = ascends_left order t.elements (elements_of (drop (i + 1) ts)) (ascends_right order (elements_of (take i ts)) _ (subst (Ascends order) elements_split s))

    -- the last element of the last child is the last of all
    pub last_of_children : (x : T) → i + 1 ≡ length ts → IsLast x t.elements → IsLast x (elements_of ts)
    last_of_children x n it =
        let rest : drop (i + 1) ts ≡ [] = drop_all (i + 1) ts (omega (arith, n)) in
        last_of_end (elements_of ts) (elements_of (take i ts)) t.elements x (elements_split ∙ ap (λ us. elements_of (take i ts) ++ (t.elements ++ elements_of us)) rest ∙ ap (λ us. elements_of (take i ts) ++ us) (append-nil t.elements)) it

    module _ (order : T → T → Ordering) (against : T → Ordering) (probe : IsProbe order against) (x : T) (it : IsLast x t.elements) (s : Ascends order (elements_of ts)) where
      -- a key that is above the last element of a child is above all elements of that child and of those before it
      pub below_child : against x ≡ Greater → AllBelow against (elements_of (take (i + 1) ts))
      below_child g =
          let front = elements_of (take i ts) in
          let rest = elements_of (drop (i + 1) ts) in
          let upto : elements_of (take (i + 1) ts) ≡ (front ++ it.front) ++ x ∷ [] = elements_take_more ∙ ap (λ xs. front ++ xs) it.is ∙ sym (append_assoc front it.front (x ∷ [])) in
          let whole : elements_of ts ≡ ((front ++ it.front) ++ x ∷ []) ++ rest = elements_split ∙ sym (append_assoc front t.elements rest) ∙ ap (λ xs. xs ++ rest) (sym elements_take_more ∙ upto) in
          subst (AllBelow against) (sym upto) (below_last order against probe (front ++ it.front) x (ascends_left order ((front ++ it.front) ++ x ∷ []) rest (subst (Ascends order) whole s)) g)

      -- a key that is not above the last element of a child is below all that comes after that child
      pub above_child : is_gt (against x) ≡ false → AllAbove against (elements_of (drop (i + 1) ts))
      above_child n =
          let front = elements_of (take i ts) in
          let rest = elements_of (drop (i + 1) ts) in
          let whole : elements_of ts ≡ (front ++ it.front) ++ x ∷ rest =
          elements_split ∙ ap (λ xs. front ++ (xs ++ rest)) it.is ∙ ap (λ xs. front ++ xs) (append_assoc it.front (x ∷ []) rest) ∙ sym (append_assoc front it.front (x ∷ rest)) in
          above_first order against probe (front ++ it.front) x rest (subst (Ascends order) whole s) n

    module _ (against : T → Ordering) (low : AllBelow against (elements_of (take i ts))) (high : AllAbove against (elements_of (drop (i + 1) ts))) where
      pub child_found : found against t.elements ≡ found against (elements_of ts)
      child_found = sym (ap (found against) elements_split ∙ found_cut against (elements_of (take i ts)) t.elements (elements_of (drop (i + 1) ts)) low high)

      pub child_above : above against (elements_of ts) ≡ above against t.elements ++ elements_of (drop (i + 1) ts)
      child_above = ap (above against) elements_split ∙ above_cut against (elements_of (take i ts)) t.elements (elements_of (drop (i + 1) ts)) low high

      pub child_below : below against (elements_of ts) ≡ elements_of (take i ts) ++ below against t.elements
      child_below = ap (below against) elements_split ∙ below_cut against (elements_of (take i ts)) t.elements (elements_of (drop (i + 1) ts)) low high

      pub child_removed : removed against (elements_of ts) ≡ elements_of (take i ts) ++ (removed against t.elements ++ elements_of (drop (i + 1) ts))
      child_removed = ap (removed against) elements_split ∙ removed_cut against (elements_of (take i ts)) t.elements (elements_of (drop (i + 1) ts)) low high

    module _ (u : Subtree T) where
      -- the elements after one child has changed
      pub elements_set : elements_of (set ts i u) ≡ elements_of (take i ts) ++ (u.elements ++ elements_of (drop (i + 1) ts))
      elements_set = ap elements_of (set_is ts i u l) ∙ elements_append (take i ts) (u ∷ drop (i + 1) ts)

      pub set_kept : u.elements ≡ t.elements → elements_of (set ts i u) ≡ elements_of ts
      set_kept h = elements_set ∙ ap (λ xs. elements_of (take i ts) ++ (xs ++ elements_of (drop (i + 1) ts))) h ∙ sym elements_split

      pub set_inserted : (order : T → T → Ordering) (x : T) → AllBelow (order x) (elements_of (take i ts)) → AllAbove (order x) (elements_of (drop (i + 1) ts)) → u.elements ≡ inserted order x t.elements
          → elements_of (set ts i u) ≡ inserted order x (elements_of ts)
      set_inserted order x low high h =
          elements_set ∙ ap (λ xs. elements_of (take i ts) ++ (xs ++ elements_of (drop (i + 1) ts))) h
          ∙ sym (ap (inserted order x) elements_split ∙ inserted_cut order x (elements_of (take i ts)) t.elements (elements_of (drop (i + 1) ts)) low high)

      pub set_removed : (against : T → Ordering) → AllBelow against (elements_of (take i ts)) → AllAbove against (elements_of (drop (i + 1) ts)) → u.elements ≡ removed against t.elements
          → elements_of (set ts i u) ≡ removed against (elements_of ts)
      set_removed against low high h = elements_set ∙ ap (λ xs. elements_of (take i ts) ++ (xs ++ elements_of (drop (i + 1) ts))) h ∙ sym (child_removed against low high)

    -- taking out a child, all of whose elements are removed
    pub taken_removed : (against : T → Ordering) → AllBelow against (elements_of (take i ts)) → AllAbove against (elements_of (drop (i + 1) ts)) → removed against t.elements ≡ []
        → elements_of (take i ts ++ drop (suc i) ts) ≡ removed against (elements_of ts)
    taken_removed against low high h =
        let n : suc i ≡ i + 1 = omega arith in
        elements_append (take i ts) (drop (suc i) ts) ∙ ap (λ k. elements_of (take i ts) ++ elements_of (drop k ts)) n
        ∙ sym (child_removed against low high ∙ ap (λ us. elements_of (take i ts) ++ (us ++ elements_of (drop (i + 1) ts))) h)

    -- a child is replaced by its halves
    pub halved : (f b : Subtree T) → f.elements ++ b.elements ≡ t.elements → elements_of (take i ts ++ f ∷ b ∷ drop (i + 1) ts) ≡ elements_of ts
    halved f b h =
        let front = elements_of (take i ts) in
        let rest = elements_of (drop (i + 1) ts) in
        elements_append (take i ts) (f ∷ b ∷ drop (i + 1) ts) ∙ ap (λ xs. front ++ xs) (sym (append_assoc f.elements b.elements rest) ∙ ap (λ xs. xs ++ rest) h) ∙ sym elements_split

  -- two neighbours are replaced by one child
  joined_list : (front : List (Subtree T)) (a b j : Subtree T) (rest : List (Subtree T)) → let all = front ++ a ∷ b ∷ rest in set (take (suc (length front)) all ++ drop (suc (suc (length front))) all) (length front) j ≡ front ++ j ∷ rest
  joined_list [] a b j rest = refl
  joined_list (f ∷ fs) a b j rest = ap (λ us. f ∷ us) (joined_list fs a b j rest)

  pub joined : (ts : List (Subtree T)) (i : ℕ) (a b j : Subtree T) → suc i < length ts → a ≡ get_or ts i a → b ≡ get_or ts (suc i) b → j.elements ≡ a.elements ++ b.elements
      → elements_of (set (take (suc i) ts ++ drop (suc (suc i)) ts) i j) ≡ elements_of ts
  joined ts i a b j l ea eb h =
      let front = take i ts in
      let rest = drop (suc i + 1) ts in
      let next : i + 1 ≡ suc i = omega arith in
      let whole : ts ≡ front ++ a ∷ b ∷ rest =
      split_at ts i a (omega (arith, l)) ea ∙ ap (λ us. front ++ a ∷ us) (ap (λ m. drop m ts) next ∙ drop_more ts (suc i) b l ∙ ap (λ q. q ∷ rest) (sym eb)) in
      let all = front ++ a ∷ b ∷ rest in
      let m : i ≡ length front = omega (arith, length-take-le i ts (omega (arith, l))) in
      let list : set (take (suc i) ts ++ drop (suc (suc i)) ts) i j ≡ front ++ j ∷ rest =
      ap (λ us. set (take (suc i) us ++ drop (suc (suc i)) us) i j) whole ∙ ap (λ p. set (take (suc p) all ++ drop (suc (suc p)) all) p j) m ∙ joined_list front a b j rest in
      ap elements_of list ∙ elements_append front (j ∷ rest) ∙ ap (λ us. elements_of front ++ (us ++ elements_of rest)) h ∙ ap (λ us. elements_of front ++ us) (append_assoc a.elements b.elements (elements_of rest))
      ∙ sym (ap elements_of whole ∙ elements_append front (a ∷ b ∷ rest))

  pub same_at : (ts : List (Subtree T)) (i : ℕ) (a b : Subtree T) → i < length ts → a ≡ get_or ts i a → b ≡ get_or ts i b → a ≡ b
  same_at [] i a b l ea eb = absurd (omega (arith, l))
  same_at (t ∷ ts) zero a b l ea eb = ea ∙ sym eb
  same_at (t ∷ ts) (suc i) a b l ea eb = same_at ts i a b (omega (arith, l)) ea eb

  -- there are children where there are elements
  pub children_some : (ts : List (Subtree T)) → 0 < length (elements_of ts) → 0 < length ts
  children_some [] n = absurd (omega (arith, n))
  children_some (t ∷ ts) n = omega arith

pub replaced : {X : Type 0} (xs : List X) (i : ℕ) (f b : X) → i < length xs → set (take (i + 1) xs ++ b ∷ drop (i + 1) xs) i f ≡ take i xs ++ f ∷ b ∷ drop (i + 1) xs
replaced xs i f b l = grind (arith, common_steps, set_is, take_more)

-- ---- elements of one page

tie_head : {T : Type 0} (us vs : List T) (x y : T) → x ∷ us ≡ y ∷ vs → x ≡ y
tie_head us vs x y e = cc

pub tie_at : {T : Type 0} (against : T → Ordering) (xs : List T) (i : ℕ) (x : T) (tie : IsTie against xs i) → x ≡ get_or xs i x → x ≡ tie.element
tie_at against xs i x tie e = tie_head (drop (i + 1) xs) (drop (i + 1) xs) x tie.element (append_cancel_left (take i xs) (x ∷ drop (i + 1) xs) (tie.element ∷ drop (i + 1) xs) (sym (split_at xs i x tie.within e) ∙ tie.is))

pub removed_one : {X : Type 0} (xs : List X) (i : ℕ) → take i xs ++ drop (suc i) xs ≡ take i xs ++ drop (i + 1) xs
removed_one xs i = let e : suc i ≡ i + 1 = omega arith in ap (λ k. take i xs ++ drop k xs) e

-- the only element of a list
pub only_one : {T : Type 0} (order : T → T → Ordering) (ys : List T) (x a : T) (xs : List T) → ys ≡ x ∷ xs → length ys ≤ 1 → a ≡ get_or ys 0 a → (xs ≡ []) × (a ≡ x)
only_one order ys x a xs e l h = let n : length ys ≡ length (x ∷ xs) = ap length e in (empty_of_length xs (omega (arith, n)), h ∙ ap (λ us. get_or us 0 a) e)
