-- For private clauses: names by their first byte.
use Rattle.std.specs.Prelude.{ℕ, suc, List, [], ◌∷◌, nat_lt, if◌then◌else◌}
use Rattle.mg_value.specs.Value.{Members, no_members, member}

-- 0 for the empty name, else one more than the first byte: a later name never has a lower rank
abbrev pub rank_of : List ℕ → ℕ
rank_of [] = 0
rank_of (c ∷ s) = suc c

-- how many names come before the first one whose rank is n or more; the count of all names if there is no such name
abbrev pub ranked_below : ℕ → Members → ℕ
ranked_below n no_members = 0
ranked_below n (member k v ms) = if nat_lt (rank_of k) n then suc (ranked_below n ms) else 0
