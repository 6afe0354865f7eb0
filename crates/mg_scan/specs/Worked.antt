-- For private clauses: what workers find.
use Rattle.std.specs.Prelude.{◌≡◌, ℕ, List, Option, Some, slice_get}
use Rattle.std.specs.List.{AllByRecursion}
use Rattle.std.specs.declared.alloc.Global.{Global}
use Rattle.std.specs.declared.vec.Vec.{Vec}
use Rattle.mg_scan.specs.Hit.{AreHitsOf, hit_rows}
use Rattle.mg_scan.specs.Search.{found_by}
use Rattle.mg_scan.specs.declared.hit.Hit.{Hit}
use Rattle.mg_scan.specs.declared.search.Search.{Search}
use Rattle.mg_scan.specs.declared.workers.ShardHits.{ShardHits}
use Rattle.mg_shard.specs.Shard.{ShardView}

-- the hits are what the search finds in the shard, with their documents
pub record AreHitsFound (search : Search) (s : ShardView) (hits : List Hit) : Type 0 where
  pub rows : hit_rows hits ≡ found_by search s
  pub documents : AreHitsOf s hits

-- the hits are what the search finds in the i-th shard, if there is one; shards are counted from 0
pub record AreHitsFoundAt (search : Search) (shards : List ShardView) (i : ℕ) (hits : List Hit) : Type 0 where
  pub gives : (s : ShardView) → slice_get shards i ≡ Some s → AreHitsFound search s hits

-- each item has the hits that the search finds in the item's shard
abbrev pub AllShardHits : Search → List ShardView → List ShardHits → Type 0
AllShardHits search shards ds = AllByRecursion (λ d. AreHitsFoundAt search shards d.shard d.hits.items) ds

-- each slot that is not empty has the hits that the search finds in the shard of the same number
abbrev pub AllSlots : Search → List ShardView → List (Option (Vec Hit Global)) → Type 0
AllSlots search shards slots = (i : ℕ) (v : Vec Hit Global) → slice_get slots i ≡ Some (Some v) → AreHitsFoundAt search shards i v.items
