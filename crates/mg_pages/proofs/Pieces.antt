-- Pages as pieces of a sorted list, and keys that belong within them.
use Rattle.std.proofs.Common.{◌≡◌, ℕ, zero, suc, ◌+◌, ◌<◌, List, [], ◌∷◌, ◌++◌, length, take, drop, get_or, Ordering, Less, Greater, is_lt, is_gt, refl, sym, ap, ◌∙◌, subst, arith, append_assoc, append-nil}
use Rattle.std.proofs.lemmas.List.{length-drop, length-take}
use Rattle.mg_pages.specs.Order.{Ascends, IsProbe, above, below}
use Rattle.mg_pages.specs.Runs.{IsEndRun, IsPiece, IsRun}
use Rattle.mg_pages.specs.Search.{AllAbove, AllBelow, IsAmong, BelongsWithin}
use Rattle.mg_pages.specs.Subtree.{Subtree, elements_of}
use Rattle.mg_pages.proofs.Levels.{elements_split}
use Rattle.mg_pages.proofs.Sorted.{above_cut, above_first, above_gap, all_right, ascends_left, ascends_right, before_one, below_cut, below_gap, split_at}

-- a list is a piece of itself
pub piece_itself : {T : Type 0} (page xs : List T) → page ≡ xs → IsPiece page xs
piece_itself page xs e = record { front = []; rest = []; is = sym e ∙ sym (append-nil page) }

-- a piece of one child is a piece of all
pub piece_child : {T : Type 0} (ts : List (Subtree T)) (i : ℕ) (t : Subtree T) (page : List T) → i < length ts → t ≡ get_or ts i t → IsPiece page t.elements → IsPiece page (elements_of ts)
piece_child ts i t page l e it =
    let before = elements_of (take i ts) in
    let after = elements_of (drop (i + 1) ts) in
    record {
      front = before ++ it.front;
      rest = it.rest ++ after;
      is = elements_split ts i t l e ∙ ap (λ us. before ++ (us ++ after)) it.is ∙ ap (λ us. before ++ us) (append_assoc it.front (page ++ it.rest) after ∙ ap (λ us. it.front ++ us) (append_assoc page it.rest after))
          ∙ sym (append_assoc before it.front (page ++ (it.rest ++ after)));
    }

-- an element of a piece is one of the list
pub piece_among : {T : Type 0} (page xs : List T) → IsPiece page xs → (k : ℕ) (x : T) → k < length page → x ≡ get_or page k x → IsAmong xs x
piece_among page xs it k x l e =
    record {
      front = it.front ++ take k page;
      rest = drop (k + 1) page ++ it.rest;
      is = it.is ∙ ap (λ us. it.front ++ (us ++ it.rest)) (split_at page k x l e) ∙ ap (λ us. it.front ++ us) (append_assoc (take k page) (x ∷ drop (k + 1) page) it.rest)
          ∙ sym (append_assoc it.front (take k page) (x ∷ (drop (k + 1) page ++ it.rest)));
    }

-- a piece of a sorted list is sorted
pub piece_ascends : {T : Type 0} (order : T → T → Ordering) (page xs : List T) → IsPiece page xs → Ascends order xs → Ascends order page
piece_ascends order page xs it s = ascends_left order page it.rest (ascends_right order it.front (page ++ it.rest) (subst (Ascends order) it.is s))

module _ {T : Type 0} (against : T → Ordering) where
  first_of_front : (page : List T) (i : ℕ) → 0 < i → i < length page → AllBelow against (take i page) → (y : T) × (ys : List T) × (page ≡ y ∷ ys) × (against y ≡ Greater)
  first_of_front [] i some less h = absurd (omega arith)
  first_of_front (y ∷ ys) zero some less h = absurd (omega arith)
  first_of_front (y ∷ ys) (suc i) some less h = (y, ys, refl, h.0)

  first_of_rest : (page : List T) (i : ℕ) → i < length page → AllAbove against (drop i page) → (us : List T) × (z : T) × (zs : List T) × (page ≡ us ++ z ∷ zs) × (against z ≡ Less)
  first_of_rest [] i less h = absurd (omega arith)
  first_of_rest (z ∷ zs) zero less h = ([], z, zs, refl, h.0)
  first_of_rest (x ∷ xs) (suc i) less h = let r = first_of_rest xs i (omega arith) h in (x ∷ r.0, r.1, r.2, ap (λ us. x ∷ us) r.3, r.4)

  module _ (order : T → T → Ordering) (p : IsProbe order against) (xs page : List T) (it : IsPiece page xs) (s : Ascends order xs) (i : ℕ) (inner : BelongsWithin against page i) where
    -- the elements before the page are below the key, and those after it above
    front_below : AllBelow against it.front
    front_below =
        let f = first_of_front page i inner.some inner.less inner.belongs.before in
        before_one order against p it.front f.0 (f.1 ++ it.rest) (subst (Ascends order) (it.is ∙ ap (λ us. it.front ++ (us ++ it.rest)) f.2) s) (ap is_lt f.3)

    rest_above : AllAbove against it.rest
    rest_above =
        let r = first_of_rest page i inner.less inner.belongs.after in
        let us = r.0 in
        let z = r.1 in
        let zs = r.2 in
        let cut : xs ≡ (it.front ++ us) ++ z ∷ (zs ++ it.rest) =
        it.is ∙ ap (λ vs. it.front ++ (vs ++ it.rest)) r.3 ∙ ap (λ vs. it.front ++ vs) (append_assoc us (z ∷ zs) it.rest) ∙ sym (append_assoc it.front us (z ∷ (zs ++ it.rest))) in
        all_right (λ x. against x ≡ Less) zs it.rest (above_first order against p (it.front ++ us) z (zs ++ it.rest) (subst (Ascends order) cut s) (ap is_gt r.4))

    pub run_above : IsRun (drop i page) (above against xs)
    run_above = record {
      rest = it.rest;
      is = ap (above against) it.is ∙ above_cut against it.front page it.rest front_below rest_above ∙ ap (λ us. us ++ it.rest) (above_gap against page i inner.belongs);
      some = λ e. absurd (omega (arith, e, length-drop i page, inner.less));
    }

    pub run_below : IsEndRun (take i page) (below against xs)
    run_below = record {
      rest = it.front;
      is = ap (below against) it.is ∙ below_cut against it.front page it.rest front_below rest_above ∙ ap (λ us. it.front ++ us) (below_gap against page i inner.belongs);
      some = λ e. absurd (omega (arith, e, length-take i page, inner.some, inner.less));
    }
