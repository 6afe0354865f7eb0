-- The search for the connection that has been still longest, and connections that are closed one after another.
use Rattle.std.proofs.Common.{◌≡◌, ◌≢◌, ◌∙◌, ℕ, ◌+◌, ◌<◌, ◌≤◌, Bool, true, false, List, [], ◌∷◌, ◌++◌, Option, Some, None, length, arith, ap, below_more, cond, inl, inr, nat_lt, refl, subst, sym}
use Rattle.std.specs.List.{sum_by}
use Rattle.std.proofs.lemmas.Bool.{cases_lt}
use Rattle.std.proofs.lemmas.Bool.Decides.{nat_tests}
use Rattle.std.proofs.lemmas.List.{get_or_past}
use Rattle.slab.specs.Slab.{Slab, get}
use Rattle.mg_server.specs.Closing.{Closes, ClosesEach, ClosesOne, earlier, IsStillest, still_time, TakesOut}
use Rattle.mg_server.specs.Places.{held_of}
use Rattle.mg_server.specs.declared.limits.TheConstants.{MOST_HELD}
use Rattle.mg_server.specs.declared.place.Entry.{Entry}

-- a number in an `Option`
abbrev number_in : ℕ → Option ℕ → ℕ
number_in n None = n
number_in n (Some m) = m

module _ {T : Type 0} (entries : Slab (Entry T)) (least : ℕ) where
  -- nothing is still at this key
  abbrev pub NoneAt : ℕ → Type 0
  NoneAt k = still_time least (get entries k) ≡ None

  -- what is still at this key has been so for no longer than since this time
  abbrev pub LaterAt : ℕ → ℕ → Type 0
  LaterAt time k = (other : ℕ) → still_time least (get entries k) ≡ Some other → time ≤ other

  -- the best of the keys below a number
  abbrev pub IsBestBelow : ℕ → Option (ℕ × ℕ) → Type 0
  IsBestBelow n None = (k : ℕ) → k < n → NoneAt k
  IsBestBelow n (Some best) = (still_time least (get entries best.0) ≡ Some best.1) × ((k : ℕ) → k < n → LaterAt best.1 k)

  later_here : (time other k : ℕ) → still_time least (get entries k) ≡ Some time → LaterAt time k
  later_here time other k here = λ o is. subst (λ (m : ℕ). time ≤ m) (ap (number_in 0) (sym here ∙ is)) (omega arith)

  none_later : (time k : ℕ) → NoneAt k → LaterAt time k
  none_later time k none = λ o is. absurd (cc (none, is))

  earlier_than : (a b k : ℕ) → a ≤ b → LaterAt b k → LaterAt a k
  earlier_than a b k less later = λ o is. omega (arith, less, later o is)

  -- the earlier of two, with the answer of the test
  pick : (n time : ℕ) (best : ℕ × ℕ) (test : Bool) → nat_lt time best.1 ≡ test → IsBestBelow n (Some best) → still_time least (get entries n) ≡ Some time
      → IsBestBelow (n + 1) (cond test (Some (n, time)) (Some best))
  pick n time best true is below here =
      let less : time < best.1 = grind (arith, nat_tests) in
      (here, below_more (LaterAt time) n (λ k within. earlier_than time best.1 k (omega arith) (below.1 k within)) (later_here time 0 n here))
  pick n time best false is below here =
      let more : best.1 ≤ time = grind (arith, nat_tests) in
      (below.0, below_more (LaterAt best.1) n below.1 (earlier_than best.1 time n more (later_here time 0 n here)))

  -- one key more
  pub best_more : (n : ℕ) (best : Option (ℕ × ℕ)) (time : Option ℕ) → still_time least (get entries n) ≡ time → IsBestBelow n best → IsBestBelow (n + 1) (earlier best n time)
  best_more n None None here below = below_more NoneAt n below here
  best_more n None (Some time) here below = (here, below_more (LaterAt time) n (λ k within. none_later time k (below k within)) (later_here time 0 n here))
  best_more n (Some best) None here below = (below.0, below_more (LaterAt best.1) n below.1 (none_later best.1 n here))
  best_more n (Some best) (Some time) here below = pick n time best (nat_lt time best.1) refl below here

  -- past the last slot nothing is still
  pub none_past : (n k : ℕ) → length entries.slots ≤ n → n ≤ k → NoneAt k
  none_past n k whole past = ap (still_time least) (get_or_past entries.slots k None (omega arith))

  -- below all keys
  pub best_whole : (n : ℕ) (best : ℕ × ℕ) → length entries.slots ≤ n → IsBestBelow n (Some best) → IsStillest entries least best.0
  best_whole n best whole below = record {
    time = best.1;
    waits = below.0;
    first = λ k other is. elim (cases_lt k n) [ inl within ↦ below.1 k within other is | inr past ↦ none_later best.1 k (none_past n k whole past) other is ];
  }

  pub none_whole : (n : ℕ) → length entries.slots ≤ n → IsBestBelow n None → (k : ℕ) → NoneAt k
  none_whole n whole below k = elim (cases_lt k n) [ inl within ↦ below k within | inr past ↦ none_past n k whole past ]

module _ {T : Type 0} where
  each_then : (wanted : ℕ) (old : Slab (Entry T)) (keys : List ℕ) (mid : Slab (Entry T)) (key : ℕ) (new : Slab (Entry T))
      → ClosesEach wanted old keys mid → ClosesOne wanted mid key new → ClosesEach wanted old (keys ++ key ∷ []) new
  each_then wanted old [] mid key new each one = (new, subst (λ (s : Slab (Entry T)). ClosesOne wanted s key new) each one, refl)
  each_then wanted old (first ∷ keys) mid key new each one = (each.0, each.1, each_then wanted each.0 keys mid key new each.2 one)

  -- one connection more
  pub closes_then : (wanted held : ℕ) (old mid new : Slab (Entry T)) (key : ℕ) (item : T) → Closes wanted old mid → held ≡ sum_by held_of mid.slots → wanted ≤ MOST_HELD → MOST_HELD < held + wanted
      → IsStillest mid 1 key → TakesOut (get mid key) (get new key) item → ((k : ℕ) → k ≢ key → get new k ≡ get mid k) → Closes wanted old new
  closes_then wanted held old mid new key item closed counted fits needed stillest out others =
      let one : ClosesOne wanted mid key new = record { fits = fits; needed = omega (arith, counted); stillest = stillest; gone = out.gone; others = others } in
      record { keys = closed.keys ++ key ∷ []; each = each_then wanted old closed.keys mid key new closed.each one }
