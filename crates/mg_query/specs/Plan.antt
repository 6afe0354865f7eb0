-- For private clauses: what a query asks of each shard, and which hits are the first of all shards together.
use Rattle.std.specs.Prelude.{◌≡◌, ℕ, ◌+◌, true, false, All, List, Some, drop, is_some, map, option_map}
use Rattle.mg_collate.specs.Row.{RowValue}
use Rattle.mg_merge.specs.Merged.{merged}
use Rattle.mg_index.specs.Definition.{IndexDefinition, Steps}
use Rattle.mg_normal.specs.Normal.{IsNormalOf, NormalForm}
use Rattle.mg_range.specs.Range.{range_of}
use Rattle.mg_scan.specs.Found.{target_columns}
use Rattle.mg_scan.specs.Hit.{AreHitsIn, hit_rows}
use Rattle.mg_scan.specs.Search.{after_of}
use Rattle.mg_scan.specs.declared.hit.Hit.{Hit}
use Rattle.mg_scan.specs.declared.search.Search.{Search}
use Rattle.mg_shard.specs.Shard.{ShardView, shards_view}
use Rattle.mg_query.specs.Lent.{row_at, shard_rows}
use Rattle.mg_query.specs.Page.{source_columns}
use Rattle.mg_query.specs.Query.{Query}
use Rattle.mg_query.specs.Read.{is_decided}
use Rattle.mg_query.specs.Served.{IsInCatalog, source_view}
use Rattle.mg_query.specs.View.{query_view}
use Rattle.mg_query.specs.declared.found.Plan.{Plan}
use Rattle.mg_query.specs.declared.page_search.PageSearch.{PageSearch}

-- the plan is made for the query: it has the query's selector in normal form, the range of its keys in the plan's index, and the row of its
-- bookmark; `is_decided` tells whether that range decides the whole selector
pub record IsPlanOf (q : Query) (a : Plan) : Type 0 where
  pub normal : IsNormalOf q.selector a.normal.now
  pub range : a.range ≡ range_of a.normal.now.atoms (source_columns (source_view a.source))
  pub after : a.after ≡ option_map row_at q.bookmark
  pub decided : a.is_decided ≡ is_decided (source_columns (source_view a.source)) a.normal.now

-- the search has the query's plan and the plan's range, and each shard has the plan's index
pub record IsPlanned (s : PageSearch) : Type 0 where
  pub plan : IsPlanOf (query_view s.query.now) s.plan.now
  pub range : s.range.now ≡ s.plan.now.range
  pub listed : All (λ x. IsInCatalog x.definitions (source_view s.plan.now.source)) (shards_view s.shards.now)

-- the search has the plan's index, normal form, range and row to begin after, and takes as many rows as the page skips and shows
pub record IsSearchOf (q : Query) (a : Plan) (s : Search) : Type 0 where
  pub target : (ds : List IndexDefinition) → IsInCatalog ds (source_view a.source) → target_columns s.target ds ≡ Some (source_columns (source_view a.source))
  pub normal : s.normal.now ≡ a.normal.now
  pub range : s.range.now ≡ a.range
  pub after : after_of s ≡ a.after
  pub take : s.take ≡ q.skip + q.limit
  pub direction : s.direction ≡ q.direction

-- the rows that a shard hands over for the query, by its plan
abbrev pub rows_asked_of : Query → Plan → ShardView → List RowValue
rows_asked_of q a = shard_rows a.normal.now (source_columns (source_view a.source)) q

-- the hits are the first of all shards together, at most skip + limit; each is of a document of one of the shards
pub record AreFirst (q : Query) (a : Plan) (shards : List ShardView) (found : List Hit) : Type 0 where
  pub rows : hit_rows found ≡ merged q.direction (q.skip + q.limit) (map (rows_asked_of q a) shards)
  pub hits : AreHitsIn shards found

-- without the first `skip`, the hits are those that the page shows; each is of a document of one of the shards
pub record AreOfPage (q : Query) (a : Plan) (shards : List ShardView) (skip : ℕ) (found : List Hit) : Type 0 where
  pub rows : hit_rows (drop skip found) ≡ drop q.skip (merged q.direction (q.skip + q.limit) (map (rows_asked_of q a) shards))
  pub hits : AreHitsIn shards found
