-- What contracts see of a state, and of shards while a bulk is applied.
use Rattle.std.specs.Prelude.{◌≡◌, ◌<◌, List, [], ◌∷◌, length, map, string_bytes}
use Rattle.std.specs.Arc.{arc_value}
use Rattle.std.specs.FinMap as finite
use Rattle.mg_shard.specs.Documents.{StandFor}
use Rattle.mg_shard.specs.Draft.{DraftStandsFor, DraftView}
use Rattle.mg_shard.specs.Histories.{Histories}
use Rattle.mg_shard.specs.Shard.{ShardView, shards_view}
use Rattle.mg_engine.specs.Stands.{HaveRows, StateView}
use Rattle.mg_engine.specs.declared.state.State.TheInside.{Inside}

-- the name, the catalog, the shards and the number that a state holds
abbrev pub state_view : Inside → StateView
state_view s = record { name = string_bytes (arc_value s.name); catalog = arc_value s.catalog; shards = shards_view s.shards.items; counter = s.counter }

-- there is a shard, and each shard has the rows of the catalog's indexes and of no other index
pub record IsIndexed (s : Inside) : Type 0 where
  pub some : 0 < length s.shards.items
  pub rows : HaveRows (arc_value s.catalog) (shards_view s.shards.items)

-- a shard without documents and indexes
abbrev pub empty_shard : ShardView
empty_shard = record { documents = finite.empty; definitions = [] }

-- ---- while a bulk is applied

-- a draft that has touched no document yet
abbrev pub fresh : ShardView → DraftView
fresh s = record { shard = s; touched = finite.empty }

-- the shards as they were before the bulk
abbrev pub before : List DraftView → List ShardView
before drafts = map (λ d. d.shard) drafts

-- the shard that a draft leaves: it stands for what the draft stands for, and has the same indexes
pub record FinishesAs (d : DraftView) (s : ShardView) : Type 0 where
  pub stands : (hs : Histories) → DraftStandsFor d hs → StandFor s.documents hs
  pub definitions : s.definitions ≡ d.shard.definitions

-- the drafts leave these shards, one for each draft
abbrev pub AllFinishAs : List DraftView → List ShardView → Type 0
AllFinishAs [] [] = Unit {0}
AllFinishAs [] (s ∷ ss) = ⊥
AllFinishAs (d ∷ ds) [] = ⊥
AllFinishAs (d ∷ ds) (s ∷ ss) = FinishesAs d s × AllFinishAs ds ss
