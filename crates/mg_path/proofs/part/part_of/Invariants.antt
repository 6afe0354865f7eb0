use Rattle.std.proofs.Common.{◌≡◌, map, drop, string_bytes}
use Rattle.mg_path.specs.Part.{part_of}
use Rattle.mg_path.proofs.part.part_of.Given as goal

-- the steps left lead from the part reached to the part sought
abbrev pub invariant-loop-step : goal.invariant-loop-step
invariant-loop-step g l = part_of (map string_bytes l.steps) (g.L.LentValue.value l.fn.value) ≡ part_of (map string_bytes (drop l.step-index l.steps)) (g.L.LentValue.value l.part)
