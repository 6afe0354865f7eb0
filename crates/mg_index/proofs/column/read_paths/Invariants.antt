use Rattle.std.proofs.Common.{◌≡◌, ◌++◌, drop, map, option_map, string_bytes}
use Rattle.mg_path.specs.Part.{steps_of}
use Rattle.mg_index.specs.Reading.{each_of}
use Rattle.mg_index.proofs.column.read_paths.Given as goal

-- the result for all is the result for what is left
abbrev pub invariant-loop-text : goal.invariant-loop-text
invariant-loop-text l = each_of steps_of (map string_bytes l.texts) ≡ option_map (λ more. l.paths.items ++ more) (each_of steps_of (map string_bytes (drop l.text-index l.texts)))
