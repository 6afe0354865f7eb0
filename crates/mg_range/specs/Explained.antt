-- A range in JSON, as `_explain` shows it: `{"empty":true}`, or `{"equal":[..],"lower":..,"upper":..}` with each limit as null or
-- `{"inclusive":..,"value":..}`.
use Rattle.std.specs.Prelude.{codes, true, Option, Some, None}
use Rattle.mg_value.specs.Value.{Value, null, flag, list, object, no_members, member}
use Rattle.mg_value.specs.View.{items_of}
use Rattle.mg_range.specs.Range.{Limit, Range}

-- a limit in JSON, null if there is none
abbrev pub limit_value : Option Limit → Value
limit_value None = null
limit_value (Some l) = object (member (codes "inclusive") (flag l.inclusive) (member (codes "value") l.value no_members))

-- a range in JSON
abbrev pub range_value : Range → Value
range_value None = object (member (codes "empty") (flag true) no_members)
range_value (Some s) =
    object (member (codes "equal") (list (items_of s.equal)) (member (codes "lower") (limit_value s.lower) (member (codes "upper") (limit_value s.upper) no_members)))
