-- Lemmas on the table of connections: sums over its slots, and its queue.
use Rattle.std.proofs.Common.{◌≡◌, ◌≢◌, ◌∙◌, ℕ, zero, suc, ◌+◌, ◌≤◌, List, [], ◌∷◌, ◌++◌, Option, None, get_or, drop, cond, refl, sym, ap, subst, arith, inl, inr, count_by, nat_eq}
use Rattle.std.specs.List.{sum_by}
use Rattle.std.proofs.lemmas.Bool.{cases_eq}
use Rattle.std.proofs.lemmas.Bool.Decides.{nat_tests}
use Rattle.std.proofs.lemmas.List.Sums.{sum_by-cons, sum_by_push}
use Rattle.slab.specs.Slab.{Slab, get, Updates}

module _ {E : Type 0} where
  -- a removal, and then an insertion under the same key
  pub Updates-twice : (old mid new : Slab E) (key : ℕ) (first second : Option E) → Updates old mid key first → Updates mid new key second → Updates old new key second
  Updates-twice old mid new key first second a b = record { changed = b.changed; others = λ other differs. b.others other differs ∙ a.others other differs }

  -- a removal of a key, and then an insertion under a key that is the same
  pub Updates-through : (old mid new : Slab E) (key at : ℕ) (first second : Option E) → Updates old mid key first → at ≡ key → Updates mid new at second → Updates old new key second
  Updates-through old mid new key at first second a same b = Updates-twice old mid new key first second a (subst (λ (k : ℕ). Updates mid new k second) same b)

  -- an insertion after room was reserved
  pub get-reserved : (old mid : Slab E) → mid ≡ record old { capacity = mid.capacity } → (k : ℕ) → get mid k ≡ get old k
  get-reserved old mid kept k = ap (λ (s : Slab E). get s k) kept

  pub Updates-reserved : (old mid new : Slab E) (key : ℕ) (slot : Option E) → mid ≡ record old { capacity = mid.capacity } → Updates mid new key slot → Updates old new key slot
  Updates-reserved old mid new key slot kept up = record { changed = up.changed; others = λ other differs. up.others other differs ∙ get-reserved old mid kept other }

  module _ (f : Option E → ℕ) (none : f None ≡ 0) where
    sum_first : (xs : List (Option E)) → sum_by f xs ≡ f (get_or xs 0 None) + sum_by f (drop 1 xs)
    sum_first [] = omega (arith, none)
    sum_first (x ∷ xs) = sum_by-cons f x xs

    get_drop : (xs : List (Option E)) (k : ℕ) → get_or (drop 1 xs) k None ≡ get_or xs (suc k) None
    get_drop [] k = refl
    get_drop (x ∷ xs) k = refl

    -- a sum depends on what stands at each key alone
    pub sum_same : (xs ys : List (Option E)) → ((k : ℕ) → get_or ys k None ≡ get_or xs k None) → sum_by f ys ≡ sum_by f xs
    sum_same [] [] same = refl
    sum_same [] (y ∷ ys) same = omega (arith, sum_by-cons f y ys, ap f (same 0), none, sum_same [] ys (λ k. same (suc k)))
    sum_same (x ∷ xs) [] same = omega (arith, sum_by-cons f x xs, ap f (same 0), none, sum_same xs [] (λ k. same (suc k)))
    sum_same (x ∷ xs) (y ∷ ys) same = omega (arith, sum_by-cons f x xs, sum_by-cons f y ys, ap f (same 0), sum_same xs ys (λ k. same (suc k)))

    sum_but_one : (key : ℕ) (xs ys : List (Option E)) → ((k : ℕ) → k ≢ key → get_or ys k None ≡ get_or xs k None) → sum_by f ys + f (get_or xs key None) ≡ sum_by f xs + f (get_or ys key None)
    sum_but_one zero xs ys others =
        let tails : sum_by f (drop 1 ys) ≡ sum_by f (drop 1 xs) = sum_same (drop 1 xs) (drop 1 ys) (λ k. get_drop ys k ∙ (others (suc k) (λ e. omega arith) ∙ sym (get_drop xs k))) in
        omega (arith, sum_first xs, sum_first ys, tails)
    sum_but_one (suc key) xs ys others =
        let tails = sum_but_one key (drop 1 xs) (drop 1 ys) (λ k differs. get_drop ys k ∙ (others (suc k) (λ e. differs (omega arith)) ∙ sym (get_drop xs k))) in
        omega (arith, sum_first xs, sum_first ys, tails, ap f (others 0 (λ e. omega arith)), ap f (get_drop xs key), ap f (get_drop ys key))

    -- the sum after a change of one key
    pub sum_update : (old new : Slab E) (key : ℕ) (slot : Option E) → Updates old new key slot → sum_by f new.slots + f (get old key) ≡ sum_by f old.slots + f slot
    sum_update old new key slot up = omega (arith, sum_but_one key old.slots new.slots up.others, ap f up.changed)

  -- the queue names each key as often as the table says
  abbrev pub QueuedOnce : (Option E → ℕ) → List ℕ → Slab E → Type 0
  QueuedOnce turns queue slots = (k : ℕ) → count_by (nat_eq k) queue ≡ turns (get slots k)

  module _ (turns : Option E → ℕ) (queue : List ℕ) (old new : Slab E) (key : ℕ) (slot : Option E) (up : Updates old new key slot) (once : QueuedOnce turns queue old) where
    -- a change that concerns no turn
    pub queue_stays : turns slot ≡ turns (get old key) → QueuedOnce turns queue new
    queue_stays same k = elim (cases_eq k key) [
      | inl e ↦ once k ∙ (ap (λ (i : ℕ). turns (get old i)) e ∙ (sym same ∙ (ap turns (sym up.changed) ∙ ap (λ (i : ℕ). turns (get new i)) (sym e))))
      | inr differs ↦ once k ∙ ap turns (sym (up.others k differs))
    ]

    -- the key was put at the end of the queue
    pub queue_grows : turns (get old key) ≡ 0 → turns slot ≡ 1 → QueuedOnce turns (queue ++ key ∷ []) new
    queue_grows before after k = elim (cases_eq k key) [
      | inl e ↦
          let here : count_by (nat_eq k) queue ≡ 0 = once k ∙ (ap (λ (i : ℕ). turns (get old i)) e ∙ before) in
          let last : ◌≡◌ {A = ℕ} (cond (nat_eq k key) 1 0) 1 = grind (arith, nat_tests) in
          let now : turns (get new k) ≡ 1 = ap (λ (i : ℕ). turns (get new i)) e ∙ (ap turns up.changed ∙ after) in
          omega (arith, sum_by_push (λ (x : ℕ). cond (nat_eq k x) 1 0) queue key, here, last, now)
      | inr differs ↦
          let last : ◌≡◌ {A = ℕ} (cond (nat_eq k key) 1 0) 0 = grind (arith, nat_tests) in
          omega (arith, sum_by_push (λ (x : ℕ). cond (nat_eq k x) 1 0) queue key, once k, last, ap turns (up.others k differs))
    ]

  -- the key was taken from the front of the queue
  pub queue_shrinks : (turns : Option E → ℕ) (queue rest : List ℕ) (old new : Slab E) (key : ℕ) (slot : Option E) → Updates old new key slot → QueuedOnce turns queue old
      → queue ≡ key ∷ rest → turns (get old key) ≤ 1 → turns slot ≡ 0 → QueuedOnce turns rest new
  queue_shrinks turns queue rest old new key slot up once front most after k =
      let count : count_by (nat_eq k) queue ≡ cond (nat_eq k key) 1 0 + count_by (nat_eq k) rest = ap (λ (q : List ℕ). count_by (nat_eq k) q) front ∙ sum_by-cons (λ (x : ℕ). cond (nat_eq k x) 1 0) key rest in
      elim (cases_eq k key) [
        | inl e ↦
            let first : ◌≡◌ {A = ℕ} (cond (nat_eq k key) 1 0) 1 = grind (arith, nat_tests) in
            let was : turns (get old k) ≤ 1 = subst (λ (i : ℕ). turns (get old i) ≤ 1) (sym e) most in
            let now : turns (get new k) ≡ 0 = ap (λ (i : ℕ). turns (get new i)) e ∙ (ap turns up.changed ∙ after) in
            omega (arith, count, once k, first, was, now)
        | inr differs ↦
            let first : ◌≡◌ {A = ℕ} (cond (nat_eq k key) 1 0) 0 = grind (arith, nat_tests) in
            omega (arith, count, once k, first, ap turns (up.others k differs))
      ]

  -- the connection at the front of the queue is queued
  pub front_turn : (turns : Option E → ℕ) (queue rest : List ℕ) (slots : Slab E) (key : ℕ) → QueuedOnce turns queue slots → queue ≡ key ∷ rest → 1 ≤ turns (get slots key)
  front_turn turns queue rest slots key once front =
      let count : count_by (nat_eq key) queue ≡ cond (nat_eq key key) 1 0 + count_by (nat_eq key) rest = ap (λ (q : List ℕ). count_by (nat_eq key) q) front ∙ sum_by-cons (λ (x : ℕ). cond (nat_eq key x) 1 0) key rest in
      let first : ◌≡◌ {A = ℕ} (cond (nat_eq key key) 1 0) 1 = grind (arith, nat_tests) in
      omega (arith, count, once key, first)

  -- a bound on what stands at each key
  pub bound_update : (above : Option E → ℕ) (old new : Slab E) (key : ℕ) (slot : Option E) (most : ℕ) → Updates old new key slot → above slot ≤ most
      → ((k : ℕ) → above (get old k) ≤ most) → (k : ℕ) → above (get new k) ≤ most
  bound_update above old new key slot most up here all k = elim (cases_eq k key) [
    | inl e ↦ subst (λ (i : ℕ). above (get new i) ≤ most) (sym e) (subst (λ (x : Option E). above x ≤ most) (sym up.changed) here)
    | inr differs ↦ subst (λ (x : Option E). above x ≤ most) (sym (up.others k differs)) (all k)
  ]
