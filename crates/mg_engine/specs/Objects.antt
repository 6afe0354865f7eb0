-- Histories whose documents are objects. Commands make no others; this is why each served form has its id and its revision.
use Rattle.std.specs.Prelude.{◌≡◌, ℕ, true, List, Some}
use Rattle.std.specs.FinMap.{get}
use Rattle.std.specs.List.{AllByRecursion}
use Rattle.mg_doc.specs.Document.{Edit, is_object}
use Rattle.mg_revtree.specs.History.{Paths}
use Rattle.mg_shard.specs.Histories.{Histories}

-- the body of each accepted path is an object
abbrev pub HasObjects : Paths → Type 0
HasObjects h = AllByRecursion (λ p. is_object p.body ≡ true) h

-- each document's bodies are objects
pub record HaveObjects (hs : Histories) : Type 0 where
  pub each : (id : List ℕ) (h : Paths) → get hs id ≡ Some h → HasObjects h

-- the body of each edit is an object
abbrev pub BringObjects : List Edit → Type 0
BringObjects es = AllByRecursion (λ e. is_object e.body ≡ true) es
