-- The world: what a database holds, with no mention of how it is kept.
use Rattle.std.specs.Prelude.{ℕ, List, []}
use Rattle.std.specs.FinMap as finite
use Rattle.mg_index.specs.Definition.{IndexDefinition}
use Rattle.mg_shard.specs.Histories.{Histories}

-- the database's name, the documents' histories, the index definitions, and the number that was last given to a document without an id
pub record World : Type 0 where
  pub name : List ℕ
  pub docs : Histories
  pub indexes : List IndexDefinition
  pub counter : ℕ

-- the world of a new database of this name: no document, no index, and no number given
abbrev pub empty_world : List ℕ → World
empty_world name = record { name = name; docs = finite.empty; indexes = []; counter = 0 }
