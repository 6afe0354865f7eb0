use Rattle.std.proofs.Common.{◌≡◌, ◌∷◌, ◌++◌, drop, map}
use Rattle.mg_value.specs.View.{view}
use Rattle.mg_index.specs.Definition.{listed_all_docs, listed_of}
use Rattle.mg_engine.proofs.define.list_definitions.Given as goal

-- what is listed so far, followed by the rest as it is listed, is the whole list
abbrev pub invariant-loop-definition : goal.invariant-loop-definition
invariant-loop-definition l = listed_all_docs ∷ map listed_of l.definitions ≡ map view l.listed.items ++ map listed_of (drop l.definition-index l.definitions)
