-- How the code compares numbers of any length. Only private clauses use this definition.
use Rattle.std.specs.Prelude.{ℕ, ◌==◌, List, [], ◌∷◌, if◌then◌else◌}

-- the digits of a number without its leading zeros
abbrev pub significant : List ℕ → List ℕ
significant [] = []
significant (d ∷ ds) = if d == 48 then significant ds else d ∷ ds
