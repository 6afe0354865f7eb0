-- Counts of shards that are added up until there are too many.
use Rattle.std.proofs.Common.{◌≡◌, ℕ, zero, suc, ◌+◌, ◌-◌, ◌<◌, ◌≤◌, Bool, true, false, List, [], ◌∷◌, Option, Some, None, drop, get_or, length, nat_le, option_map, refl, ap, sym, ◌∙◌, arith}
use Rattle.std.proofs.lemmas.Bool.{leb-false, leb-true}
use Rattle.std.proofs.lemmas.List.Sums.{sum_by-cons}
use Rattle.std.specs.Arc.{arc_value}
use Rattle.std.specs.List.{sum_by}
use Rattle.std.specs.Option.{option_map_or}
use Rattle.std.specs.declared.alloc.Global.{Global}
use Rattle.std.specs.declared.sync.Arc.{Arc}
use Rattle.mg_collate.specs.Row.{RowValue}
use Rattle.mg_shard.specs.Shard.{ShardView, shards_view}

same : (m n k l : ℕ) → (m ≤ n → k ≤ l) → (k ≤ l → m ≤ n) → (b c : Bool) → nat_le m n ≡ b → nat_le k l ≡ c → b ≡ c
same m n k l f g true true e h = refl
same m n k l f g false false e h = refl
same m n k l f g true false e h = let over = leb-false k l h in let under = f (leb-true m n e) in absurd (omega (arith, over, under))
same m n k l f g false true e h = let over = leb-false m n e in let under = g (leb-true k l h) in absurd (omega (arith, over, under))

-- if a alone is too many, a + b is too many
too_many : (a b n : ℕ) → n < a → nat_le (a + b) n ≡ false
too_many a b n less = same (a + b) n 1 0 (λ le. absurd (omega (arith, le, less))) (λ le. absurd (omega (arith, le))) (nat_le (a + b) n) false refl refl

-- a + b fits if b fits into what a leaves
less_room : (a b n : ℕ) → a ≤ n → nat_le (a + b) n ≡ nat_le b (n - a)
less_room a b n le = same (a + b) n b (n - a) (λ h. omega (arith, h, le)) (λ h. omega (arith, h, le)) (nat_le (a + b) n) (nat_le b (n - a)) refl refl

none_over : (n : ℕ) → nat_le 0 n ≡ true
none_over n = same 0 n 0 1 (λ le. omega arith) (λ le. omega arith) (nat_le 0 n) true refl refl

pub drop_shard : (shards : List (Arc ShardView Global)) (i : ℕ) (a : Arc ShardView Global) (s : ShardView) → i < length shards → a ≡ get_or shards i a → s ≡ arc_value a
    → drop i (shards_view shards) ≡ s ∷ drop (i + 1) (shards_view shards)
drop_shard [] i a s less is same = absurd (omega arith)
drop_shard (x ∷ shards) zero a s less is same = ap (λ y. y ∷ shards_view shards) (sym (same ∙ ap arc_value is))
drop_shard (x ∷ shards) (suc i) a s less is same =
    let n : suc (i + 1) ≡ suc i + 1 = omega arith in
    drop_shard shards i a s (omega arith) is same ∙ ap (λ m. s ∷ drop m (shards_view (x ∷ shards))) n

pub drop_all : (shards : List (Arc ShardView Global)) (i : ℕ) → length shards ≤ i → drop i (shards_view shards) ≡ []
drop_all [] zero le = refl
drop_all [] (suc i) le = refl
drop_all (x ∷ shards) zero le = absurd (omega arith)
drop_all (x ∷ shards) (suc i) le = drop_all shards i (omega arith)

module _ (f : ShardView → ℕ) (shards : List (Arc ShardView Global)) (i : ℕ) (all : Bool) (left : ℕ) (so : all ≡ nat_le (sum_by f (drop i (shards_view shards))) left) where
  counted : (a : Arc ShardView Global) (s : ShardView) → i < length shards → a ≡ get_or shards i a → s ≡ arc_value a → all ≡ nat_le (f s + sum_by f (drop (i + 1) (shards_view shards))) left
  counted a s less is same = so ∙ ap (λ n. nat_le n left) (ap (sum_by f) (drop_shard shards i a s less is same) ∙ sum_by-cons f s (drop (i + 1) (shards_view shards)))

  pub over : (a : Arc ShardView Global) (s : ShardView) (n : ℕ) → i < length shards → a ≡ get_or shards i a → s ≡ arc_value a → n ≡ f s → left < n → false ≡ all
  over a s n less is same e more = sym (counted a s less is same ∙ too_many (f s) (sum_by f (drop (i + 1) (shards_view shards))) left (omega (arith, e, more)))

  pub on : (a : Arc ShardView Global) (s : ShardView) (n : ℕ) → i < length shards → a ≡ get_or shards i a → s ≡ arc_value a → n ≡ f s → n ≤ left
      → all ≡ nat_le (sum_by f (drop (i + 1) (shards_view shards))) (left - n)
  on a s n less is same e le =
      counted a s less is same ∙ less_room (f s) (sum_by f (drop (i + 1) (shards_view shards))) left (omega (arith, e, le))
      ∙ ap (λ m. nat_le (sum_by f (drop (i + 1) (shards_view shards))) (left - m)) (sym e)

  pub ended : length shards ≤ i → true ≡ all
  ended le = sym (so ∙ ap (λ (xs : List ShardView). nat_le (sum_by f xs) left) (drop_all shards i le) ∙ none_over left)

-- ---- the sum of all

pub added : (f : ShardView → ℕ) (shards : List (Arc ShardView Global)) (i : ℕ) (a : Arc ShardView Global) (s : ShardView) (all more total : ℕ) → i < length shards → a ≡ get_or shards i a → s ≡ arc_value a
    → total ≡ all + sum_by f (drop i (shards_view shards)) → more ≡ all + f s → total ≡ more + sum_by f (drop (i + 1) (shards_view shards))
added f shards i a s all more total less is same so e =
    let one = ap (sum_by f) (drop_shard shards i a s less is same) in
    let both = sum_by-cons f s (drop (i + 1) (shards_view shards)) in omega (arith, so, e, one, both)

pub all_added : (f : ShardView → ℕ) (shards : List (Arc ShardView Global)) (i all : ℕ) → sum_by f (shards_view shards) ≡ all + sum_by f (drop i (shards_view shards)) → length shards ≤ i → all ≡ sum_by f (shards_view shards)
all_added f shards i all so le =
    let none : sum_by f (drop i (shards_view shards)) ≡ 0 = ap (sum_by f) (drop_all shards i le) in omega (arith, so, none)

-- the count of the rows of an index; 0 if there is no such index
pub counts : (f : List RowValue → ℕ) (o : Option (List RowValue)) (n : ℕ) → Some n ≡ option_map f o → n ≡ option_map_or f o 0
counts f None n e = absurd cc
counts f (Some rows) n e = cc

pub counts_none : (f : List RowValue → ℕ) (o : Option (List RowValue)) → None ≡ option_map f o → 0 ≡ option_map_or f o 0
counts_none f None e = refl
counts_none f (Some rows) e = absurd cc
