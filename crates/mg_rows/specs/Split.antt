-- For private clauses: bytes in two parts, in the value itself or in memory that copies share.
use Rattle.std.specs.Prelude.{◌≤◌, ℕ, List, take, drop, length}
use Rattle.std.specs.Arc.{arc_value}
use Rattle.mg_rows.specs.declared.split.Held.{Held}
use Rattle.mg_rows.specs.declared.split.Held.TheVariants.{Inline, Shared}

-- the bytes of both parts
abbrev pub held_bytes : Held → List ℕ
held_bytes (Inline count end bytes) = take count bytes
held_bytes (Shared bytes end) = (arc_value bytes).items

-- how many of the bytes the first part has
abbrev pub held_end : Held → ℕ
held_end (Inline count end bytes) = end
held_end (Shared bytes end) = end

-- the two parts
abbrev pub held_parts : Held → List ℕ × List ℕ
held_parts held = (take (held_end held) (held_bytes held), drop (held_end held) (held_bytes held))

-- the first part is no longer than all bytes together; in the value itself these are at most 29, and the array has room for them
abbrev pub IsSound : Held → Type 0
IsSound (Inline count end bytes) = (end ≤ count) × (count ≤ length bytes) × (count ≤ 29)
IsSound (Shared bytes end) = end ≤ length (arc_value bytes).items
