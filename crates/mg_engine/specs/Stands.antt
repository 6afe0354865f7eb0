-- Which world an engine stands for.
use Rattle.std.specs.Prelude.{◌≡◌, ℕ, List, All, length, map, refl}
use Rattle.std.specs.Coded.{Coded, code_by, coded×, coded_ℕ, coded_list}
use Rattle.mg_index.specs.Definition.{IndexDefinition, definition_code}
use Rattle.mg_shard.specs.Dealt.{Placing, ShardsStandFor}
use Rattle.mg_shard.specs.Shard.{ShardView, shard_code}
use Rattle.mg_engine.specs.Objects.{HaveObjects}
use Rattle.mg_engine.specs.World.{World}

-- what a state holds: the database's name, the catalog of its indexes, its shards, and the number last given to a document without an id
pub record StateView : Type 0 where
  pub name : List ℕ
  pub catalog : List IndexDefinition
  pub shards : List ShardView
  pub counter : ℕ

-- how the logic stores what a state holds
abbrev pub state_view_code : Coded StateView
state_view_code =
    code_by (List ℕ × (List IndexDefinition × (List ShardView × ℕ)))
    (coded× (coded_list coded_ℕ) (coded× (coded_list definition_code) (coded× (coded_list shard_code) coded_ℕ)))
    (λ s. (s.name, (s.catalog, (s.shards, s.counter)))) (λ p. record { name = p.0; catalog = p.1.0; shards = p.1.1.0; counter = p.1.1.1 }) (λ _. refl)

-- the indexes of each shard
abbrev pub definitions_of : List ShardView → List (List IndexDefinition)
definitions_of shards = map (λ s. s.definitions) shards

-- each shard has the rows of these indexes, and of no other index
abbrev pub HaveRows : List IndexDefinition → List ShardView → Type 0
HaveRows ds shards = All (λ given. given ≡ ds) (definitions_of shards)

-- a state whose documents are placed by `place` stands for a world if its shards stand for the histories, its catalog is the list of
-- indexes, each shard has the rows of these indexes and of no other, and the names and the counters are equal. Each accepted body in the
-- world must also be an object (commands accept no other)
pub record StateStandsFor (place : Placing) (s : StateView) (w : World) : Type 0 where
  pub name : s.name ≡ w.name
  pub documents : ShardsStandFor place s.shards w.docs
  pub indexes : s.catalog ≡ w.indexes
  pub rows : HaveRows w.indexes s.shards
  pub counter : s.counter ≡ w.counter
  pub objects : HaveObjects w.docs

-- an engine (its placement and its state) stands for each world that its state stands for; `place` is how its placement places an id
abbrev pub Stands : {P : Type 0} → (P → List ℕ → ℕ → ℕ) → P × StateView → World → Type 0
Stands place e w = StateStandsFor (place e.0) e.1 w

-- how many shards an engine has
abbrev pub shard_count : {P : Type 0} → P × StateView → ℕ
shard_count e = length e.1.shards
