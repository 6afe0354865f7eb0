-- Hits: rows that a search found, each with its document.
use Rattle.std.specs.Prelude.{◌≡◌, ℕ, List, Option, Some, map, option_map, slice_get}
use Rattle.std.specs.FinMap.{get}
use Rattle.std.specs.List.{AllByRecursion}
use Rattle.mg_collate.specs.Row.{RowValue}
use Rattle.mg_value.specs.Text.{compact}
use Rattle.mg_value.specs.Value.{Value}
use Rattle.mg_scan.specs.HitRow.{hit_row_view}
use Rattle.mg_scan.specs.declared.hit.Hit.{Hit}
use Rattle.mg_shard.specs.Documents.{KeptDocument, form_at}
use Rattle.mg_shard.specs.Shard.{ShardView}

-- the row of a hit: its key, and the id of its document
abbrev pub hit_row : Hit → RowValue
hit_row h = hit_row_view h.row

-- the rows of hits
abbrev pub hit_rows : List Hit → List RowValue
hit_rows hits = map hit_row hits

-- what the hit's shard keeps under the hit's id
abbrev pub hit_kept : Hit → Option KeptDocument
hit_kept h = get h.shard.now.documents (hit_row h).1

-- the form in which the document of a hit is served
abbrev pub hit_form : Hit → Option Value
hit_form h = form_at h.shard.now.documents (hit_row h).1

-- the compact text of the form in which the document of a hit is served
abbrev pub hit_text : Hit → Option (List ℕ)
hit_text h = option_map compact (hit_form h)

-- the hit is of a document of this shard
abbrev pub IsHitOf : ShardView → Hit → Type 0
IsHitOf s h = h.shard.now ≡ s

-- each hit is of a document of this shard
abbrev pub AreHitsOf : ShardView → List Hit → Type 0
AreHitsOf s hits = AllByRecursion (IsHitOf s) hits

-- the hit is of a document of one of the shards
pub record IsHitIn (shards : List ShardView) (h : Hit) : Type 0 where
  pub place : ℕ
  pub shard : ShardView
  pub there : slice_get shards place ≡ Some shard
  pub hit : IsHitOf shard h

-- each hit is of a document of one of the shards
abbrev pub AreHitsIn : List ShardView → List Hit → Type 0
AreHitsIn shards hits = AllByRecursion (IsHitIn shards) hits
