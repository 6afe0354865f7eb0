use Rattle.std.proofs.Common.{◌≡◌, take}
use Rattle.mg_index.proofs.catalog.copy_definitions.Given as goal

-- the copies are those of the definitions so far
abbrev pub invariant-loop-definition : goal.invariant-loop-definition
invariant-loop-definition l = l.copy.items ≡ take l.definition-index l.definitions
