-- Shards: the definitions of each are a catalog.
use Rattle.std.proofs.Common.{◌≡◌, ℕ, ◌+◌, ◌<◌, List, get_or, length, slice_index_or, sym, ap, ◌∙◌, subst}
use Rattle.std.proofs.lemmas.List.{get_or-map}
use Rattle.std.specs.Arc.{arc_value}
use Rattle.std.specs.declared.alloc.Global.{Global}
use Rattle.std.specs.declared.sync.Arc.{Arc}
use borrow.Author.Count.{below_more}
use Rattle.mg_index.specs.Catalog.{IsCatalog}
use Rattle.mg_shard.specs.Shard.{ShardView, shards_view}

-- the definitions of each of the first n shards are a catalog
abbrev pub AreCatalogs : List ShardView → ℕ → Type 0
AreCatalogs shards n = (k : ℕ) (d : ShardView) → k < n → IsCatalog (slice_index_or shards k d).definitions

-- so are those of one more shard
pub one_more_catalog : (shards : List (Arc ShardView Global)) (i : ℕ) (a : Arc ShardView Global) (s : ShardView) → i < length shards → a ≡ get_or shards i a → s ≡ arc_value a → IsCatalog s.definitions
    → AreCatalogs (shards_view shards) i → AreCatalogs (shards_view shards) (i + 1)
one_more_catalog shards i a s less is same here before = λ k d l.
    below_more (λ j. (e : ShardView) → IsCatalog (slice_index_or (shards_view shards) j e).definitions) i (λ j m e. before j e m)
    (λ e. subst (λ (x : ShardView). IsCatalog x.definitions) (same ∙ ap arc_value is ∙ sym (get_or-map arc_value shards i a e less)) here) k l d
