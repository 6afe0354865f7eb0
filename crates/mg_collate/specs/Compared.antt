-- For private clauses: how the code compares two objects, and two values of different types.
use Rattle.std.specs.Prelude.{ℕ, true, false}
use Rattle.std.specs.declared.cmp.Ordering.{Ordering}
use Rattle.mg_value.specs.Value.{Value, null, flag, whole, text, list, object, Members}
use Rattle.mg_collate.specs.Order.{value_order}

-- the order of two objects, given their members
abbrev pub members_order : Members → Members → Ordering
members_order a b = value_order (object a) (object b)

-- the place of a value's type in the order of types, from 1
abbrev pub rank : Value → ℕ
rank null = 1
rank (flag false) = 2
rank (flag true) = 3
rank (whole z) = 4
rank (text s) = 5
rank (list vs) = 6
rank (object ms) = 7
