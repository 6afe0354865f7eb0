use Rattle.std.proofs.Common.{◌≡◌, drop}
use Rattle.mg_engine.specs.Design.{is_design}
use Rattle.mg_engine.proofs.design.is_design.Given as goal

-- an index is of the design document if one is that is left
abbrev pub invariant-loop-definition : goal.invariant-loop-definition
invariant-loop-definition l = is_design l.ddoc l.definitions ≡ is_design l.ddoc (drop l.definition-index l.definitions)
