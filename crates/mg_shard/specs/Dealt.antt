-- Documents that are dealt to shards by a placement of their ids, and the histories for which the shards stand together.
use Rattle.std.specs.Prelude.{◌≡◌, ℕ, ◌<◌, ◌==◌, List, length, Option, Some, option_and_then, slice_get}
use Rattle.std.specs.FinMap.{get, retain_keys}
use Rattle.mg_revtree.specs.History.{Paths}
use Rattle.mg_shard.specs.Documents.{KeptDocument, StandFor}
use Rattle.mg_shard.specs.Draft.{DraftView, DraftStandsFor}
use Rattle.mg_shard.specs.Histories.{Histories}
use Rattle.mg_shard.specs.Shard.{ShardView}

-- a placement: the number of the shard on which an id is placed, given the id and how many shards there are
abbrev pub Placing : Type 0
Placing = List ℕ → ℕ → ℕ

-- the histories of the ids that are placed on shard i of n
abbrev pub histories_on : Placing → ℕ → ℕ → Histories → Histories
histories_on place n i hs = retain_keys hs (λ id. place id n == i)

-- Values, one for each shard, together stand for histories if each id that has a history is placed on one of the shards, and each value
-- stands for the histories that are placed on its shard. A document is then in the shard on which its id is placed, and in no other
pub record AreDealt {X : Type 0} (Stands : X → Histories → Type 0) (place : Placing) (xs : List X) (hs : Histories) : Type 0 where
  pub placed : (id : List ℕ) (h : Paths) → get hs id ≡ Some h → place id (length xs) < length xs
  pub each : (i : ℕ) (x : X) → slice_get xs i ≡ Some x → Stands x (histories_on place (length xs) i hs)

-- a shard stands for histories if its documents do
abbrev pub ShardStandsFor : ShardView → Histories → Type 0
ShardStandsFor s hs = StandFor s.documents hs

-- these shards together stand for the histories, which this placement deals to them
abbrev pub ShardsStandFor : Placing → List ShardView → Histories → Type 0
ShardsStandFor place shards hs = AreDealt ShardStandsFor place shards hs

-- these drafts of shards together stand for the histories, which this placement deals to them
abbrev pub DraftsStandFor : Placing → List DraftView → Histories → Type 0
DraftsStandFor place drafts hs = AreDealt DraftStandsFor place drafts hs

-- the document of an id, as it is kept on the shard where the id is placed; `None` if that shard has no document of the id, or if
-- there is no such shard
abbrev pub kept_at : Placing → List ShardView → List ℕ → Option KeptDocument
kept_at place shards id = option_and_then (λ s. get s.documents id) (slice_get shards (place id (length shards)))
