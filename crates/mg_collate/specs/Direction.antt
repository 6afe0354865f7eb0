-- The two directions of a listing, as `asc` and `desc` in a sort of CouchDB's `_find`.
use Rattle.std.specs.Prelude.{ℕ, List, codes, Option, Some, None, if◌then◌else◌}
use Rattle.std.specs.Ordering.{ordering_reverse}
use Rattle.std.specs.Str.{bytes_eq}
use Rattle.std.specs.declared.cmp.Ordering.{Ordering}
use Rattle.mg_collate.specs.declared.direction.Direction.{Direction}
use Rattle.mg_collate.specs.declared.direction.Direction.TheVariants.{Asc, Desc}

-- the text that names a direction
abbrev pub direction_name : Direction → List ℕ
direction_name Asc = codes "asc"
direction_name Desc = codes "desc"

-- the direction that a text names, `asc` or `desc`; None for any other text
abbrev pub direction_named : List ℕ → Option Direction
direction_named name = if bytes_eq name (codes "asc") then Some Asc else if bytes_eq name (codes "desc") then Some Desc else None

-- the order of two rows in a direction, given their ascending order: descending reverses it
abbrev pub directed : Direction → Ordering → Ordering
directed Asc order = order
directed Desc order = ordering_reverse order
