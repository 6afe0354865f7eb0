-- Where a search enters a range of keys, by the first column alone. The rule is this project's own.
use Rattle.std.specs.Prelude.{List, [], ◌∷◌, true, Option, Some, None}
use Rattle.mg_value.specs.Value.{Value}
use Rattle.mg_collate.specs.declared.direction.Direction.{Direction}
use Rattle.mg_collate.specs.declared.direction.Direction.TheVariants.{Asc, Desc}
use Rattle.mg_range.specs.Range.{Limit, Range, limit_at}

-- the limit on the first column for a search in the direction: the column's fixed value, if it has one; otherwise the lower limit if the
-- search ascends, the upper one if it descends; `None` if that limit is absent
abbrev pub limit_on : Direction → List Value → Option Limit → Option Limit → Option Limit
limit_on direction (v ∷ vs) lower upper = Some (limit_at v true)
limit_on Asc [] lower upper = lower
limit_on Desc [] lower upper = upper

-- the limit at which a search in a direction enters a range; `None` if there is no such limit, or if the range is empty
abbrev pub limit_entered : Direction → Range → Option Limit
limit_entered direction None = None
limit_entered direction (Some s) = limit_on direction s.equal s.lower s.upper
