-- The rows that are extracted from each shard, and the shards that are built with them.
use Rattle.std.proofs.Common.{◌≡◌, ℕ, zero, suc, ◌+◌, ◌<◌, List, [], ◌∷◌, ◌++◌, map, length, take, get_or, set, Some, Result, slice_get, sym, ap, ◌∙◌, subst, add-one, arith}
use Rattle.std.specs.Arc.{arc_value}
use Rattle.std.specs.declared.alloc.Global.{Global}
use Rattle.std.specs.declared.sync.Arc.{Arc}
use Rattle.mg_collate.specs.Row.{RowValue}
use Rattle.mg_index.specs.Definition.{IndexDefinition}
use Rattle.mg_scan.specs.Built.{with_index}
use Rattle.mg_scan.specs.Building.{AreRowsAt, AreRowsFrom, HasRowsAt}
use Rattle.mg_shard.specs.Shard.{shards_view, ShardView}
use Rattle.mg_scan.proofs.Maps.{get-map, get-set, some_is}
use Rattle.mg_shard.specs.Documents.{docs_of}
use Rattle.mg_shard.specs.Rows.{rows_of}
use Rattle.mg_value.specs.declared.error.NoMemory.{NoMemory}

abbrev Extracted : Type 0
Extracted = Result (List RowValue) NoMemory

-- the shard at a place
pub shard_at : (shards : List (Arc ShardView Global)) (i : ℕ) (a : Arc ShardView Global) (s : ShardView) → i < length shards → a ≡ get_or shards i a → s ≡ arc_value a → slice_get (shards_view shards) i ≡ Some s
shard_at shards i a s less is same = get-map arc_value shards i a less is ∙ ap Some (sym same)

pub rows_there : (d : IndexDefinition) (shards : List (Arc ShardView Global)) (i : ℕ) (s : ShardView) (v : List RowValue) → slice_get (shards_view shards) i ≡ Some s → v ≡ rows_of d.columns (docs_of s.documents)
    → (t : ShardView) → slice_get (shards_view shards) i ≡ Some t → v ≡ rows_of d.columns (docs_of t.documents)
rows_there d shards i s v at is = λ t e. is ∙ ap (λ (x : ShardView). rows_of d.columns (docs_of x.documents)) (some_is s t (sym at ∙ e))

pub rows-set : (d : IndexDefinition) (shards : List ShardView) (rs : List Extracted) (at : ℕ) (r : Extracted) → AreRowsAt d shards rs → HasRowsAt d shards at r → AreRowsAt d shards (set rs at r)
rows-set d shards rs at r h here i x e = get-set (HasRowsAt d shards) rs at r here h i x e

snoc-at : {A : Type 0} (P : ℕ → A → Type 0) (xs : List A) (a : A) → ((i : ℕ) (x : A) → slice_get xs i ≡ Some x → P i x) → P (length xs) a → (i : ℕ) (x : A) → slice_get (xs ++ a ∷ []) i ≡ Some x → P i x
snoc-at P [] a all here zero x e = subst (P zero) (some_is a x e) here
snoc-at P [] a all here (suc i) x e = absurd cc
snoc-at P (y ∷ ys) a all here zero x e = all zero x e
snoc-at P (y ∷ ys) a all here (suc i) x e = snoc-at (λ k z. P (suc k) z) ys a (λ k z f. all (suc k) z f) here i x e

pub rows-snoc : (d : IndexDefinition) (shards : List ShardView) (rs : List Extracted) (n : ℕ) (r : Extracted) → n ≡ length rs → AreRowsAt d shards rs → HasRowsAt d shards n r → AreRowsAt d shards (rs ++ r ∷ [])
rows-snoc d shards rs n r long h here i x e = snoc-at (HasRowsAt d shards) rs r h (subst (λ k. HasRowsAt d shards k r) long here) i x e

at_index : {A : Type 0} (xs : List A) (i : ℕ) (x : A) → slice_get xs i ≡ Some x → (i < length xs) × (get_or xs i x ≡ x)
at_index [] i x e = absurd cc
at_index (y ∷ xs) zero x e = (omega arith, some_is y x e)
at_index (y ∷ xs) (suc i) x e = let rest = at_index xs i x e in (omega (arith, rest.0), rest.1)

-- each item of the list has what the call of the same number returned
pub rows-called : (d : IndexDefinition) (shards : List ShardView) (from n : ℕ) (rs : List Extracted) → length rs ≡ n → ((i : ℕ) (r : Extracted) → i < n → HasRowsAt d shards (from + i) (get_or rs i r)) → AreRowsFrom d shards from rs
rows-called d shards from n rs long h i r e =
    let at = at_index rs i r e in
    subst (HasRowsAt d shards (from + i)) at.1 (h i r (omega (arith, at.0, long)))

join-at : {A : Type 0} (P : ℕ → A → Type 0) (xs ys : List A) → ((i : ℕ) (x : A) → slice_get xs i ≡ Some x → P i x) → ((i : ℕ) (x : A) → slice_get ys i ≡ Some x → P (length xs + i) x) → (i : ℕ) (x : A) → slice_get (xs ++ ys) i ≡ Some x → P i x
join-at P [] ys h more i x e = let same : 0 + i ≡ i = omega arith in subst (λ k. P k x) same (more i x e)
join-at P (y ∷ xs) ys h more zero x e = h zero x e
join-at P (y ∷ xs) ys h more (suc i) x e =
    join-at (λ k z. P (suc k) z) xs ys (λ k z f. h (suc k) z f)
    (λ k z f. let same : suc (length xs) + k ≡ suc (length xs + k) = omega arith in subst (λ n. P n z) same (more k z f)) i x e

-- the rows so far, and those of the further shards
pub rows-joined : (d : IndexDefinition) (shards : List ShardView) (xs ys : List Extracted) (from : ℕ) → from ≡ length xs → AreRowsAt d shards xs → AreRowsFrom d shards from ys → AreRowsAt d shards (xs ++ ys)
rows-joined d shards xs ys from long h more i x e =
    join-at (HasRowsAt d shards) xs ys h (λ k z f. subst (λ n. HasRowsAt d shards (n + k) z) long (more k z f)) i x e

take-suc : {A : Type 0} (xs : List A) (i : ℕ) (x : A) → slice_get xs i ≡ Some x → take (suc i) xs ≡ take i xs ++ x ∷ []
take-suc [] i x e = absurd cc
take-suc (y ∷ ys) zero x e = ap (λ z. z ∷ []) (some_is y x e)
take-suc (y ∷ ys) (suc i) x e = ap (λ z. y ∷ z) (take-suc ys i x e)

-- the shards so far, and one more
pub built-more : (all built : List ShardView) (i : ℕ) (s : ShardView) → built ≡ take i all → slice_get all i ≡ Some s → built ++ s ∷ [] ≡ take (i + 1) all
built-more all built i s so here = rw add-one (ap (λ xs. xs ++ s ∷ []) so ∙ sym (take-suc all i s here))

map_at : (d : IndexDefinition) (shards : List ShardView) (i : ℕ) (s : ShardView) → slice_get shards i ≡ Some s → slice_get (map (with_index d) shards) i ≡ Some (with_index d s)
map_at d [] i s e = absurd cc
map_at d (x ∷ shards) zero s e = ap (λ y. Some (with_index d y)) (some_is x s e)
map_at d (x ∷ shards) (suc i) s e = map_at d shards i s e

pub built_at : (d : IndexDefinition) (shards : List (Arc ShardView Global)) (i : ℕ) (s t : ShardView) → slice_get (shards_view shards) i ≡ Some s → t ≡ with_index d s → slice_get (map (with_index d) (shards_view shards)) i ≡ Some t
built_at d shards i s t at is = map_at d (shards_view shards) i s at ∙ ap Some (sym is)
