-- Whether a key is before, within or past a range, in the order of keys. The rule is this project's own.
use Rattle.std.specs.Prelude.{ℕ, List, [], ◌∷◌, Bool, true, false, not, Option, Some, None, if◌then◌else◌}
use Rattle.std.specs.Ordering.{is_ge, is_gt, match_ordering}
use Rattle.std.specs.declared.cmp.Ordering.{Ordering}
use Rattle.mg_value.specs.Value.{Value}
use Rattle.mg_collate.specs.Order.{value_order}
use Rattle.mg_collate.specs.declared.direction.Direction.{Direction}
use Rattle.mg_collate.specs.declared.direction.Direction.TheVariants.{Asc, Desc}
use Rattle.mg_range.specs.Range.{Limit, Range, order_from}
use Rattle.mg_range.specs.declared.side.RangeSide.{RangeSide}
use Rattle.mg_range.specs.declared.side.RangeSide.TheVariants.{Before, Within, Past}

-- whether a value is within a limit, given whether the limit is inclusive, and the order of the value to the limit's value, which is
-- reversed for an upper limit
abbrev pub admits : Bool → Ordering → Bool
admits true order = is_ge order
admits false order = is_gt order

-- whether the value is within the limit, a lower one (`Asc`) or an upper one (`Desc`)
abbrev pub is_within : Direction → Limit → Value → Bool
is_within direction l v = admits l.inclusive (order_from direction v l.value)

-- whether a key is before the span of these fixed values and this lower limit. The first value that differs from its fixed value decides;
-- if none differs, the limit decides by the next value, and without a limit the key is not before. A key that ends before the value that
-- decides is before
abbrev pub is_before : List Value → Option Limit → List Value → Bool
is_before (e ∷ es) lower (v ∷ vs) = match_ordering (value_order v e) true (is_before es lower vs) false
is_before (e ∷ es) lower [] = true
is_before [] (Some l) (v ∷ vs) = not (is_within Asc l v)
is_before [] (Some l) [] = true
is_before [] None key = false

-- whether a key is past the span of these fixed values and this upper limit. The first value that differs from its fixed value decides;
-- if none differs, the limit decides by the next value, and without a limit the key is not past. A key that ends before the value that
-- decides is not past
abbrev pub is_past : List Value → Option Limit → List Value → Bool
is_past (e ∷ es) upper (v ∷ vs) = match_ordering (value_order v e) false (is_past es upper vs) true
is_past (e ∷ es) upper [] = false
is_past [] (Some u) (v ∷ vs) = not (is_within Desc u v)
is_past [] (Some u) [] = false
is_past [] None key = false

-- whether a key is before, within or past the span of these fixed values and limits
abbrev pub side_from : List Value → Option Limit → Option Limit → List Value → RangeSide
side_from equal lower upper key = if is_before equal lower key then Before else if is_past equal upper key then Past else Within

-- whether a key is before, within or past a range; all keys are past an empty range
abbrev pub side_of : Range → List Value → RangeSide
side_of None key = Past
side_of (Some s) key = side_from s.equal s.lower s.upper key

-- whether the side is `Within`
abbrev pub is_side_within : RangeSide → Bool
is_side_within Within = true
is_side_within side = false

-- whether the range has the key
abbrev pub has_key : Range → List Value → Bool
has_key range key = is_side_within (side_of range key)

-- whether the side is `Before`
abbrev pub is_side_before : RangeSide → Bool
is_side_before Before = true
is_side_before side = false

-- whether the side is `Past`
abbrev pub is_side_past : RangeSide → Bool
is_side_past Past = true
is_side_past side = false

-- whether a key on this side comes before the range in a direction
abbrev pub is_early : Direction → RangeSide → Bool
is_early Asc side = is_side_before side
is_early Desc side = is_side_past side

-- whether a key on this side comes after the range in a direction
abbrev pub is_late : Direction → RangeSide → Bool
is_late Asc side = is_side_past side
is_late Desc side = is_side_before side

-- the rank of a side, in the order of keys
abbrev pub side_rank : RangeSide → ℕ
side_rank Before = 0
side_rank Within = 1
side_rank Past = 2
