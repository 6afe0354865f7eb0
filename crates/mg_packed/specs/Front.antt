-- The members of an object whose names do not begin with a given byte.
use Rattle.std.specs.Prelude.{ℕ, List, [], ◌∷◌, Bool, false, ◌==◌, if◌then◌else◌}
use Rattle.mg_value.specs.Value.{Members, no_members, member}

-- whether a name begins with the byte b
abbrev pub begins_with : ℕ → List ℕ → Bool
begins_with b [] = false
begins_with b (c ∷ s) = c == b

-- the members whose names do not begin with the byte b
abbrev pub without_names_beginning : ℕ → Members → Members
without_names_beginning b no_members = no_members
without_names_beginning b (member k v ms) = if begins_with b k then without_names_beginning b ms else member k v (without_names_beginning b ms)
