-- Runs of revisions.
use Rattle.std.proofs.Common.{◌≡◌, ◌∙◌, Bor, MatchOption, option_copied, option_map, Option, drop, nat_cmp, is_eq, ℕ, ◌+◌, ◌<◌, ◌≤◌, ◌-◌, ◌||◌, ◌&&◌, inl, inr, ap, sym, Bool, true, false, Some, None, List, [], ◌∷◌, zero, suc, nat_lt, nat_le, length, get_or, map, refl, arith}
use Rattle.std.specs.List.{list_all, HoldsAt}
use Rattle.std.specs.Cmp.Lexicographic.{slice_cmp}
use Rattle.std.proofs.lemmas.List.{drop_more, drop_all, get_or-map}
use Rattle.std.proofs.lemmas.Bool.Decides.{nat_tests}
use Rattle.mg_revtree.specs.Revision.{Revision, is_revision_id, run_from, run_of, same_revision}
use Rattle.mg_revtree.specs.History.{Link, is_this, links, has_child, is_known, newest_of}
use Rattle.mg_revtree.proofs.Same.{two, same_is, same_at}

module _ {X : Type 0} (f : X → List ℕ) where
  pub length-map : (xs : List X) → length (map f xs) ≡ length xs
  length-map [] = refl
  length-map (x ∷ xs) = rw (length-map xs) refl

  all-map : (p : List ℕ → Bool) (xs : List X) → list_all p (map f xs) ≡ list_all (λ x. p (f x)) xs
  all-map p [] = refl
  all-map p (x ∷ xs) = rw (all-map p xs) refl

  pub run_of_ids : (n : ℕ) (xs : List X) → 0 < length xs → length xs ≤ n → list_all (λ x. is_revision_id (f x)) xs ≡ true → Some (run_from n (map f xs)) ≡ run_of n (map f xs)
  run_of_ids n xs some fits ids =
      let a : nat_lt 0 (length xs) ≡ true = grind (arith, nat_tests) in
      let b : nat_le (length xs) n ≡ true = grind (arith, nat_tests) in
      rw (length-map xs, a, b, all-map is_revision_id xs, ids) refl

  pub run_of_none : (n : ℕ) (xs : List X) → length xs ≡ 0 → None ≡ run_of n (map f xs)
  run_of_none n [] e = refl
  run_of_none n (x ∷ xs) e = absurd (omega (arith, e))

  pub run_of_long : (n : ℕ) (xs : List X) → n < length xs → None ≡ run_of n (map f xs)
  run_of_long n xs lt =
      let a : nat_lt 0 (length xs) ≡ true = grind (arith, nat_tests) in
      let b : nat_le (length xs) n ≡ false = grind (arith, nat_tests) in
      rw (length-map xs, a, b) refl

  pub run_of_bad : (n : ℕ) (xs : List X) → 0 < length xs → length xs ≤ n → list_all (λ x. is_revision_id (f x)) xs ≡ false → None ≡ run_of n (map f xs)
  run_of_bad n xs some fits ids =
      let a : nat_lt 0 (length xs) ≡ true = grind (arith, nat_tests) in
      let b : nat_le (length xs) n ≡ true = grind (arith, nat_tests) in
      rw (length-map xs, a, b, all-map is_revision_id xs, ids) refl

-- ---- parents in a run

-- a revision at a run's start or above is no parent in it
pub no_child : (n : ℕ) (ids : List (List ℕ)) (r : Revision) → n ≤ r.0 → length ids ≤ n + 1 → has_child r (links (run_from n ids)) ≡ false
no_child n [] r le fits = refl
no_child n (a ∷ []) r le fits = refl
no_child n (a ∷ b ∷ ids) r le fits = elim (two (same_revision r (n - 1, b))) [
  | inl t ↦ absurd (let e : r.0 ≡ n - 1 = ap (λ (x : Revision). x.0) (same_is r (n - 1, b) t) in omega arith)
  | inr f ↦ rw f (no_child (n - 1) (b ∷ ids) r (omega arith) (omega arith))
]

-- a revision is a parent in a run exactly if it is the parent that the run has at its position
pub child_at : (n : ℕ) (ids : List (List ℕ)) (r : Revision) (k : ℕ) (d : List ℕ) → r.0 + k + 1 ≡ n → k + 1 < length ids → length ids ≤ n + 1 → has_child r (links (run_from n ids)) ≡ same_revision r (r.0, get_or ids (suc k) d)
child_at n [] r k d at lt fits = absurd (omega arith)
child_at n (a ∷ []) r k d at lt fits = absurd (omega arith)
child_at n (a ∷ b ∷ ids) r zero d at lt fits =
    let e : n - 1 ≡ r.0 = omega (arith, at) in
    let h : has_child r (links (run_from (n - 1) (b ∷ ids))) ≡ false = no_child (n - 1) (b ∷ ids) r (omega (arith, at)) (omega (arith, at)) in
    ap (λ x. same_revision r (n - 1, b) || x) h ∙ or_off (same_revision r (n - 1, b)) ∙ ap (λ (m : ℕ). same_revision r (m, b)) e
  where
    or_off : (t : Bool) → t || false ≡ t
    or_off true = refl
    or_off false = refl
child_at n (a ∷ b ∷ ids) r (suc k) d at lt fits = elim (two (same_revision r (n - 1, b))) [
  | inl t ↦ absurd (let e : r.0 ≡ n - 1 = ap (λ (x : Revision). x.0) (same_is r (n - 1, b) t) in omega (arith, at))
  | inr f ↦ rw f (child_at (n - 1) (b ∷ ids) r k d (omega (arith, at)) (omega arith) (omega (arith, at)))
]

-- a revision below a run's end is no parent in it
pub no_child_below : (n : ℕ) (ids : List (List ℕ)) (r : Revision) → r.0 + length ids ≤ n → length ids ≤ n + 1 → has_child r (links (run_from n ids)) ≡ false
no_child_below n [] r le fits = refl
no_child_below n (a ∷ []) r le fits = refl
no_child_below n (a ∷ b ∷ ids) r le fits = elim (two (same_revision r (n - 1, b))) [
  | inl t ↦ absurd (let e : r.0 ≡ n - 1 = ap (λ (x : Revision). x.0) (same_is r (n - 1, b) t) in omega arith)
  | inr f ↦ rw f (no_child_below (n - 1) (b ∷ ids) r (omega arith) (omega arith))
]

-- the newest of a path is no parent in it
abbrev pub IsRun : List Revision → Type 0
IsRun rs = (r : Revision) → is_this r (newest_of rs) ≡ true → has_child r (links rs) ≡ false

-- the newest of a run is no parent in it
pub run_is : (n : ℕ) (ids : List (List ℕ)) → length ids ≤ n + 1 → IsRun (run_from n ids)
run_is n [] fits r e = refl
run_is n (a ∷ ids) fits r e = let k : r.0 ≡ n = ap (λ (x : Revision). x.0) (same_is r (n, a) e) in no_child n (a ∷ ids) r (omega arith) fits

-- ---- one more revision before a run

-- a revision above a run is not in it
unknown_above : (n m : ℕ) (s : List ℕ) (ids : List (List ℕ)) → m < n → is_known (n, s) (links (run_from m ids)) ≡ false
unknown_above n m s [] lt = refl
unknown_above n m s (a ∷ ids) lt = elim (two (same_revision (n, s) (m, a))) [
  | inl t ↦ absurd (let e : n ≡ m = ap (λ (x : Revision). x.0) (same_is (n, s) (m, a) t) in omega arith)
  | inr f ↦ rw f (unknown_above n (m - 1) s ids (omega arith))
]

-- a revision put before a run is not in it
pub unknown_before : (n : ℕ) (s : List ℕ) (ids : List (List ℕ)) → length ids ≤ n → is_known (n, s) (links (run_from (n - 1) ids)) ≡ false
unknown_before n s [] fits = refl
unknown_before n s (a ∷ ids) fits = unknown_above n (n - 1) s (a ∷ ids) (omega arith)

-- the newest of a run
pub newest_is : {X : Type 0} (f : X → List ℕ) (n : ℕ) (xs : List X) (x : X) → 0 < length xs → x ≡ get_or xs 0 x → newest_of (run_from n (map f xs)) ≡ Some (n, f x)
newest_is f n [] x lt is = absurd (omega arith)
newest_is f n (y ∷ xs) x lt is = ap (λ (z : _). Some (n, f z)) (sym is)

-- the item that is read at place i is the newest of the rest of the run
pub newest_got : {X : Type 0} (f : X → List ℕ) (n : ℕ) (xs : List X) (i : ℕ) (r : Option (Bor X)) → MatchOption r (length xs ≤ i) (λ x. (i < length xs) × HoldsAt (λ y. x.now ≡ y) xs i) → option_map {U = Revision} (λ p. (n, f p)) (option_copied r) ≡ newest_of (run_from n (map f (drop i xs)))
newest_got f n xs i None le = rw (drop_all i xs le) refl
newest_got f n xs i (Some x) h = rw (drop_more xs i x.now h.0) (ap (λ (s : List ℕ). (let q : Option Revision = Some (n, s) in q)) (ap f (h.1 x.now)))

-- a test of all links from place i on is that of the link at place i and that of the rest
pub all-next : {X : Type 0} (P : Link → Bool) (f : X → List ℕ) (n : ℕ) (xs : List X) (i : ℕ) (x : X) (o : Option Revision) → i < length xs → x ≡ get_or xs i x → o ≡ newest_of (run_from (n - 1) (map f (drop (i + 1) xs))) → (b : Bool) → P (record { rev = (n, f x); parent = o }) ≡ b → list_all P (links (run_from n (map f (drop i xs)))) ≡ b && list_all P (links (run_from (n - 1) (map f (drop (i + 1) xs))))
all-next {X} P f n xs i x o lt is newest b holds =
    let rest = run_from (n - 1) (map f (drop (i + 1) xs)) in
    let link = λ (s : List ℕ) (q : Option Revision). (let l : Link = record { rev = (n, s); parent = q } in l) in
    let same : link (f (get_or xs i x)) (newest_of rest) ≡ link (f x) o = ap (λ (s : List ℕ). link s (newest_of rest)) (ap f (sym is)) ∙ ap (link (f x)) (sym newest) in
    ap (λ (ys : List X). list_all P (links (run_from n (map f ys)))) (drop_more xs i x lt) ∙ ap (λ (c : Bool). c && list_all P (links rest)) (ap P same ∙ holds)

-- a revision below the newest of a run is a parent in it exactly if the run has it at its position
pub parent_found : {X : Type 0} (f : X → List ℕ) (n : ℕ) (xs : List X) (r : Revision) (j : ℕ) (x : X) → r.0 + j ≡ n → 0 < j → j < length xs → length xs ≤ n + 1 → x ≡ get_or xs j x → is_eq (slice_cmp nat_cmp r.1 (f x)) ≡ has_child r (links (run_from n (map f xs)))
parent_found f n xs r zero x at pos lt fits is = absurd (omega arith)
parent_found f n xs r (suc k) x at pos lt fits is =
    let m : length (map f xs) ≡ length xs = length-map f xs in
    let e : get_or (map f xs) (suc k) (f x) ≡ f x = get_or-map f xs (suc k) x (f x) lt ∙ ap f (sym is) in
    sym (child_at n (map f xs) r k (f x) (omega (arith, at)) (omega (arith, m)) (omega (arith, m)) ∙ ap (λ (s : List ℕ). same_revision r (r.0, s)) e ∙ same_at r (f x))

pub no_parent_above : {X : Type 0} (f : X → List ℕ) (n : ℕ) (xs : List X) (r : Revision) → n ≤ r.0 → length xs ≤ n + 1 → false ≡ has_child r (links (run_from n (map f xs)))
no_parent_above f n xs r le fits = sym (no_child n (map f xs) r le (omega (arith, length-map f xs)))

pub no_parent_below : {X : Type 0} (f : X → List ℕ) (n : ℕ) (xs : List X) (r : Revision) → r.0 + length xs ≤ n → length xs ≤ n + 1 → false ≡ has_child r (links (run_from n (map f xs)))
no_parent_below f n xs r le fits = sym (no_child_below n (map f xs) r (omega (arith, length-map f xs)) (omega (arith, length-map f xs)))
