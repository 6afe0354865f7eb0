-- Lists of lent documents, and the shards that threads make, in a list.
use denote.Ref.{Bor}
use Rattle.std.proofs.Common.{◌≡◌, ℕ, zero, suc, ◌+◌, ◌<◌, List, [], ◌∷◌, Some, Result, Ok, Err, length, get_or, map, slice_get, arith, refl, sym, ap, subst, IfOk}
use Rattle.std.specs.Prelude.{MatchResult, Contains}
use Rattle.std.specs.List.{AllZip, range_with_len}
use Rattle.std.specs.declared.alloc.Global.{Global}
use Rattle.std.specs.declared.vec.Vec.{Vec}
use Rattle.mg_shard.specs.Redealt.{documents_view}
use Rattle.mg_shard.specs.Shard.{ShardView}
use Rattle.mg_shard.specs.declared.document.Document.{Document}
use Rattle.mg_value.specs.declared.error.NoMemory.{NoMemory}

abbrev pub Given : Type 0
Given = Result ShardView NoMemory

abbrev Lent : Type 0
Lent = Bor Document

-- ---- documents that are lent

pub seen_length : (ds : List Lent) → length (documents_view ds) ≡ length ds
seen_length [] = refl
seen_length (d ∷ ds) = ap suc (seen_length ds)

pub seen_at : (ds : List Lent) (k : ℕ) (d : Lent) → k < length ds → d ≡ get_or ds k d → d.now ≡ get_or (documents_view ds) k d.now
seen_at [] k d l e = absurd (omega (arith, l))
seen_at (x ∷ ds) zero d l e = ap (λ (y : Lent). y.now) e
seen_at (x ∷ ds) (suc k) d l e = seen_at ds k d (omega (arith, l)) e

pub read_alike : (ps : List ℕ) (k a b : ℕ) → k < length ps → get_or ps k a ≡ get_or ps k b
read_alike [] k a b l = absurd (omega (arith, l))
read_alike (p ∷ ps) zero a b l = refl
read_alike (p ∷ ps) (suc k) a b l = read_alike ps k a b (omega (arith, l))

-- ---- shards

-- if no thread was refused memory, there is a shard for each number
module _ (P : ℕ → ShardView → Type 0) where
  -- from the number `a` on, there is a shard for each number
  abbrev From : ℕ → List ShardView → Type 0
  From a ss = (i : ℕ) (s : ShardView) → slice_get ss i ≡ Some s → (k : ℕ) → k ≡ a + i → P k s

  from_next : (a : ℕ) (x s : ShardView) (ss : List ShardView) → x ≡ s → P a x → From (a + 1) ss → From a (s ∷ ss)
  from_next a x s ss same here there zero t e k at =
      let first : x ≡ t = cc in
      let number : a ≡ k = omega (arith, at) in
      subst (λ j. P j t) number (subst (P a) first here)
  from_next a x s ss same here there (suc i) t e k at = there i t e k (omega (arith, at))

  shards_from : (a n : ℕ) (rs : List Given) (ss : List ShardView) → AllZip (λ i (r : Given). IfOk r (P i)) (range_with_len a n) rs → rs ≡ map Ok ss
      → (length ss ≡ n) × From a ss
  shards_from a zero [] [] h all = (refl, λ i s e k at. absurd cc)
  shards_from a zero [] (s ∷ ss) h all = absurd cc
  shards_from a zero (r ∷ rs) ss h all = absurd h
  shards_from a (suc n) [] ss h all = absurd h
  shards_from a (suc n) (Ok x ∷ rs) [] h all = absurd cc
  shards_from a (suc n) (Err x ∷ rs) [] h all = absurd cc
  shards_from a (suc n) (Err x ∷ rs) (s ∷ ss) h all = absurd cc
  shards_from a (suc n) (Ok x ∷ rs) (s ∷ ss) h all =
      let same : x ≡ s = cc in
      let more : rs ≡ map Ok ss = cc in
      let others = shards_from (a + 1) n rs ss h.1 more in
      (ap suc others.0, from_next a x s ss same h.0 others.1)

  shards_together : (n : ℕ) (rs : List Given) (v : Vec ShardView Global) → AllZip (λ i (r : Given). IfOk r (P i)) (range_with_len 0 n) rs
      → (ss : List ShardView) × (rs ≡ map Ok ss) × (v.items ≡ ss) → (length v.items ≡ n) × ((i : ℕ) (s : ShardView) → slice_get v.items i ≡ Some s → P i s)
  shards_together n rs v each all =
      let made = shards_from 0 n rs all.0 each all.1 in
      subst (λ (ss : List ShardView). (length ss ≡ n) × ((i : ℕ) (s : ShardView) → slice_get ss i ≡ Some s → P i s)) (sym all.2)
      (made.0, λ i s e. made.1 i s e i (omega arith))

  pub shards_number : (n : ℕ) (rs : List Given) (together : Result (Vec ShardView Global) NoMemory) → AllZip (λ i (r : Given). IfOk r (P i)) (range_with_len 0 n) rs
      → MatchResult together (λ v. (ss : List ShardView) × (rs ≡ map Ok ss) × (v.items ≡ ss)) (λ e. Contains rs (Err e)) → IfOk together (λ v. length v.items ≡ n)
  shards_number n rs (Err e) each all = tt
  shards_number n rs (Ok v) each all = (shards_together n rs v each all).0

  pub shards_made : (n : ℕ) (rs : List Given) (together : Result (Vec ShardView Global) NoMemory) → AllZip (λ i (r : Given). IfOk r (P i)) (range_with_len 0 n) rs
      → MatchResult together (λ v. (ss : List ShardView) × (rs ≡ map Ok ss) × (v.items ≡ ss)) (λ e. Contains rs (Err e))
      → IfOk together (λ v. (i : ℕ) (s : ShardView) → slice_get v.items i ≡ Some s → P i s)
  shards_made n rs (Err e) each all = tt
  shards_made n rs (Ok v) each all = (shards_together n rs v each all).1
