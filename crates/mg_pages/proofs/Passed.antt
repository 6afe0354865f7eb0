-- Skipping elements: the page of an element, and what is left of a list after `count` elements.
use Rattle.std.proofs.Common.{◌≡◌, ℕ, zero, suc, ◌+◌, ◌-◌, ◌<◌, ◌≤◌, List, [], ◌∷◌, ◌++◌, length, take, drop, get_or, min, reverse, slice_get, Some, Ordering, refl, sym, ap, ◌∙◌, subst, arith, append_assoc, append-nil}
use Rattle.std.proofs.lemmas.List.{drop-append-le, drop-drop, drop_all, drop_at, drop_min, get_or-append-add, get_or_append_left, length-append, length-drop, length-reverse, length-take-le, reverse-append, take-append-drop, take-append-le, take_at}
use Rattle.std.proofs.lemmas.Option.{slice_get-get_or}
use Rattle.std.specs.Cmp.{IsTotalOrder}
use Rattle.mg_pages.specs.Order.{Ascends, IsProbe, above, below}
use Rattle.mg_pages.specs.Subtree.{IsLast, Subtree, elements_of}
use Rattle.mg_pages.specs.Runs.{IsEndRun, IsPageAt, IsRun, continued, continued_after, ended}
use Rattle.mg_pages.proofs.Levels.{elements_split}
use Rattle.mg_pages.proofs.Lent.{end_whole, run_whole}
use Rattle.mg_pages.proofs.Sorted.{above_suffix, below_prefix, continued_is, ended_is}

-- ---- the page of an element

pub page_itself : {X : Type 0} (page xs : List X) (i : ℕ) → page ≡ xs → i < length xs → IsPageAt page i i xs
page_itself page xs i e l = record { front = []; rest = []; is = sym e ∙ sym (append-nil page); at = omega arith; within = omega (arith, l, ap length e) }

-- the page of an element of a child is its page among all
pub page_child : {T : Type 0} (ts : List (Subtree T)) (k : ℕ) (t : Subtree T) (page : List T) (place left i : ℕ) → k < length ts → t ≡ get_or ts k t → i ≡ length (elements_of (take k ts)) + left
    → IsPageAt page place left t.elements → IsPageAt page place i (elements_of ts)
page_child ts k t page place left i l e n it =
    let before = elements_of (take k ts) in
    let after = elements_of (drop (k + 1) ts) in
    record {
      front = before ++ it.front;
      rest = it.rest ++ after;
      is = elements_split ts k t l e ∙ ap (λ us. before ++ (us ++ after)) it.is
          ∙ ap (λ us. before ++ us) (append_assoc it.front (page ++ it.rest) after ∙ ap (λ us. it.front ++ us) (append_assoc page it.rest after))
          ∙ sym (append_assoc before it.front (page ++ (it.rest ++ after)));
      at = omega (arith, n, it.at, length-append before it.front);
      within = it.within;
    }

-- an element of a page is the element of the list at its place
pub element_at : {X : Type 0} (page xs : List X) (place i : ℕ) (x : X) → IsPageAt page place i xs → x ≡ get_or page place x → Some x ≡ slice_get xs i
element_at page xs place i x it h =
    let within : i < length xs = omega (arith, it.at, it.within, ap length it.is, length-append it.front (page ++ it.rest), length-append page it.rest) in
    let at : get_or xs i x ≡ x =
    ap (λ k. get_or xs k x) it.at ∙ ap (λ us. get_or us (length it.front + place) x) it.is ∙ get_or-append-add it.front (page ++ it.rest) place x ∙ get_or_append_left page it.rest x place it.within ∙ sym h in
    sym (slice_get-get_or xs i x within ∙ ap Some at)

-- ---- runs from a place on, and up to a place

drop_behind : {X : Type 0} (front ys : List X) (k : ℕ) → drop (length front + k) (front ++ ys) ≡ drop k ys
drop_behind front ys k = sym (drop-drop k (length front) (front ++ ys)) ∙ ap (drop k) (drop_at front ys (length front) refl)

take_behind : {X : Type 0} (front ys : List X) (k : ℕ) → k ≤ length ys → take (length front + k) (front ++ ys) ≡ front ++ take k ys
take_behind front ys k l =
    ap (take (length front + k)) (ap (λ us. front ++ us) (sym (take-append-drop k ys)) ∙ sym (append_assoc front (take k ys) (drop k ys)))
    ∙ take_at (front ++ take k ys) (drop k ys) (length front + k) (omega (arith, length-append front (take k ys), length-take-le k ys l))

run_at_place : {X : Type 0} (page xs : List X) (place i : ℕ) → IsPageAt page place i xs → IsRun (drop place page) (drop i xs)
run_at_place page xs place i it = record {
  rest = it.rest;
  is = ap (λ k. drop k xs) it.at ∙ ap (drop (length it.front + place)) it.is ∙ drop_behind it.front (page ++ it.rest) place ∙ drop-append-le place page it.rest (omega (arith, it.within));
  some = λ n. absurd (omega (arith, n, length-drop place page, it.within));
}

end_at_place : {X : Type 0} (page xs : List X) (place i : ℕ) → IsPageAt page place i xs → IsEndRun (take (place + 1) page) (take (i + 1) xs)
end_at_place page xs place i it =
    let n : i + 1 ≡ length it.front + (place + 1) = omega (arith, it.at) in
    record {
      rest = it.front;
      is = ap (λ k. take k xs) n ∙ ap (take (length it.front + (place + 1))) it.is ∙ take_behind it.front (page ++ it.rest) (place + 1) (omega (arith, it.within, length-append page it.rest))
          ∙ ap (λ us. it.front ++ us) (take-append-le (place + 1) page it.rest (omega (arith, it.within)));
      some = λ m. absurd (omega (arith, m, length-take-le (place + 1) page (omega (arith, it.within))));
    }

-- a run without its first elements, and a run without its last
pub run_within : {X : Type 0} (run ys : List X) (count : ℕ) → IsRun run ys → count < length run → IsRun (drop count run) (drop count ys)
run_within run ys count r l = record {
  rest = r.rest;
  is = ap (drop count) r.is ∙ drop-append-le count run r.rest (omega (arith, l));
  some = λ n. absurd (omega (arith, n, length-drop count run, l));
}

pub end_within : {X : Type 0} (run ys : List X) (count : ℕ) → IsEndRun run ys → count < length run → IsEndRun (take (length run - count) run) (take (length ys - count) ys)
end_within run ys count r l =
    let k = length run - count in
    let n : length ys - count ≡ length r.rest + k = omega (arith, l, ap length r.is, length-append r.rest run) in
    record {
      rest = r.rest;
      is = ap (λ j. take j ys) n ∙ ap (take (length r.rest + k)) r.is ∙ take_behind r.rest run k (omega arith);
      some = λ m. absurd (omega (arith, m, length-take-le k run (omega arith), l));
    }

module _ {T : Type 0} (order : T → T → Ordering) (against : T → Ordering) (probe : IsProbe order against) where
  -- the run of the elements above a key, after `count` of them
  pub run_passed : (page xs : List T) (place count first : ℕ) → Ascends order xs → first + (length (above against xs) - count) ≡ length xs → 0 < length (above against xs) - count → IsPageAt page place first xs
      → IsRun (drop place page) (drop count (above against xs))
  run_passed page xs place count first s n some it =
      let cut = above_suffix order against probe xs s in
      let ys = above against xs in
      let at : first ≡ length cut.0 + count = omega (arith, n, some, ap length cut.1, length-append cut.0 ys) in
      subst (IsRun (drop place page)) (ap (λ k. drop k xs) at ∙ ap (drop (length cut.0 + count)) cut.1 ∙ drop_behind cut.0 ys count) (run_at_place page xs place first it)

  -- the run that ends the first `left` elements below a key
  pub end_passed : (page xs : List T) (place left : ℕ) → Ascends order xs → 0 < left → left ≤ length (below against xs) → IsPageAt page place (left - 1) xs → IsEndRun (take (place + 1) page) (take left (below against xs))
  end_passed page xs place left s some l it =
      let cut = below_prefix order against probe xs s in
      let n : left - 1 + 1 ≡ left = omega (arith, some) in
      subst (IsEndRun (take (place + 1) page)) (ap (λ k. take k xs) n ∙ ap (take left) cut.1 ∙ take-append-le left (below against xs) cut.0 l) (end_at_place page xs place (left - 1) it)

pub run_none : {X : Type 0} (ys : List X) (count : ℕ) → length ys ≤ count → IsRun [] (drop count ys)
run_none ys count l = run_whole [] (drop count ys) (sym (drop_all count ys l))

pub end_none : {X : Type 0} (ys : List X) (left : ℕ) → left ≡ 0 → IsEndRun [] (take left ys)
end_none ys left e = end_whole [] (take left ys) (sym (ap (λ k. take k ys) e))

-- ---- iterators after skipping elements

reversed_short : {X : Type 0} (us : List X) (count : ℕ) → reverse (take (length us - count) us) ≡ drop count (reverse us)
reversed_short us count =
    let left = length us - count in
    let front = reverse (drop left us) in
    let m = min count (length (reverse us)) in
    sym (sym (drop_min count (reverse us)) ∙ ap (λ vs. drop m (reverse vs)) (sym (take-append-drop left us)) ∙ ap (drop m) (reverse-append (take left us) (drop left us))
    ∙ drop_at front (reverse (take left us)) m (omega (arith, length-reverse (drop left us), length-drop left us, length-reverse us)))

module _ {T : Type 0} (order : T → T → Ordering) (xs : List T) where
  pub continued_none : (run : List T) (count : ℕ) → length run ≡ 0 → continued order xs run ≡ drop count (continued order xs run)
  continued_none [] zero e = refl
  continued_none [] (suc count) e = refl
  continued_none (x ∷ run) count e = absurd (omega (arith, e))

  -- skipping elements within a run
  pub continued_drop : (run : List T) (count : ℕ) → count < length run → continued order xs (drop count run) ≡ drop count (continued order xs run)
  continued_drop [] count l = absurd (omega (arith, l))
  continued_drop (x ∷ run) zero l = refl
  continued_drop (x ∷ []) (suc count) l = absurd (omega (arith, l))
  continued_drop (x ∷ y ∷ run) (suc count) l = continued_drop (y ∷ run) count (omega (arith, l))

  after_front : (w : T) (front : List T) (x : T) → continued_after order xs w (front ++ x ∷ []) ≡ (front ++ x ∷ []) ++ above (order x) xs
  after_front w [] x = refl
  after_front w (y ∷ front) x = ap (λ us. y ∷ us) (after_front y front x)

  continued_last : (front : List T) (x : T) → continued order xs (front ++ x ∷ []) ≡ (front ++ x ∷ []) ++ above (order x) xs
  continued_last [] x = refl
  continued_last (y ∷ front) x = ap (λ us. y ∷ us) (after_front y front x)

  -- skipping a run whose last is x, and `more` elements
  pub continued_behind : (run : List T) (x : T) (count more : ℕ) → IsLast x run → count ≡ length run + more → drop more (above (order x) xs) ≡ drop count (continued order xs run)
  continued_behind run x count more it n =
      let ys = above (order x) xs in
      sym (ap (λ us. drop count (continued order xs us)) it.is ∙ ap (drop count) (continued_last it.front x) ∙ ap (λ us. drop count (us ++ ys)) (sym it.is)
      ∙ ap (λ k. drop k (run ++ ys)) n ∙ drop_behind run ys more)

  pub continued_from : IsTotalOrder order → (against : T → Ordering) → IsProbe order against → (run : List T) (count : ℕ) → IsRun run (drop count (above against xs)) → Ascends order xs → continued order xs run ≡ drop count (above against xs)
  continued_from o against p run count r s =
      let cut = above_suffix order against p xs s in
      let ys = above against xs in
      let front = cut.0 ++ take count ys in
      let whole : xs ≡ front ++ (run ++ r.rest) =
      cut.1 ∙ ap (λ us. cut.0 ++ us) (sym (take-append-drop count ys)) ∙ sym (append_assoc cut.0 (take count ys) (drop count ys)) ∙ ap (λ us. front ++ us) r.is in
      continued_is order o xs front run r.rest whole s (λ n. sym r.is ∙ r.some n) ∙ sym r.is

  pub ended_none : (run : List T) (count : ℕ) → length run ≡ 0 → reverse (ended order xs run) ≡ drop count (reverse (ended order xs run))
  ended_none [] zero e = refl
  ended_none [] (suc count) e = refl
  ended_none (x ∷ run) count e = absurd (omega (arith, e))

  -- from the end, skipping elements within a run
  pub ended_take : (run : List T) (left count : ℕ) → left + count ≡ length run → 0 < left → reverse (ended order xs (take left run)) ≡ drop count (reverse (ended order xs run))
  ended_take [] left count n some = absurd (omega (arith, n, some))
  ended_take (x ∷ run) zero count n some = absurd (omega (arith, some))
  ended_take (x ∷ run) (suc left) count n some =
      let low = below (order x) xs in
      let all = low ++ x ∷ run in
      let m : length all - count ≡ length low + suc left = omega (arith, n, length-append low (x ∷ run)) in
      ap reverse (sym (ap (λ j. take j all) m ∙ take_behind low (x ∷ run) (suc left) (omega (arith, n)))) ∙ reversed_short all count

  -- from the end, skipping a run whose first is x, and `more` elements
  pub ended_before : (run : List T) (x : T) (count more : ℕ) → 0 < length run → x ≡ get_or run 0 x → count ≡ length run + more
      → reverse (take (length (below (order x) xs) - more) (below (order x) xs)) ≡ drop count (reverse (ended order xs run))
  ended_before [] x count more some at n = absurd (omega (arith, some))
  ended_before (y ∷ run) x count more some at n =
      let low = below (order x) xs in
      let all = low ++ y ∷ run in
      let m : length all - count ≡ length low - more = omega (arith, n, length-append low (y ∷ run)) in
      ap reverse (sym (ap (λ j. take j all) m ∙ take-append-le (length low - more) low (y ∷ run) (omega arith))) ∙ reversed_short all count ∙ ap (λ z. drop count (reverse (below (order z) xs ++ y ∷ run))) at

  pub ended_from : IsTotalOrder order → (against : T → Ordering) → IsProbe order against → (run : List T) (left : ℕ) → IsEndRun run (take left (below against xs)) → Ascends order xs → ended order xs run ≡ take left (below against xs)
  ended_from o against p run left r s =
      let cut = below_prefix order against p xs s in
      let ys = below against xs in
      let post = drop left ys ++ cut.0 in
      let whole : xs ≡ (r.rest ++ run) ++ post =
      cut.1 ∙ ap (λ us. us ++ cut.0) (sym (take-append-drop left ys)) ∙ append_assoc (take left ys) (drop left ys) cut.0 ∙ ap (λ us. us ++ post) r.is in
      ended_is order o xs r.rest run post whole s (λ n. sym r.is ∙ r.some n) ∙ sym r.is
