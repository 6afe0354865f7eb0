-- For private clauses: the limit that a `LentLimit` of the code stands for, and how the code finds the tightest limit.
use Rattle.std.specs.Prelude.{Option, Some, None, if◌then◌else◌}
use Rattle.std.specs.Ordering.{match_ordering}
use Rattle.mg_value.specs.View.{view}
use Rattle.mg_collate.specs.declared.direction.Direction.{Direction}
use Rattle.mg_range.specs.Range.{Limit, limit_at, order_from}
use Rattle.mg_range.specs.declared.lent_limit.LentLimit.{LentLimit}

-- the limit that a `LentLimit` of the code stands for
abbrev pub lent_limit_view : LentLimit → Limit
lent_limit_view e = limit_at (view e.value.now) e.inclusive

-- the tighter of two limits from below (`Asc`) or from above (`Desc`); of two limits with equal values, an exclusive one is the tighter
abbrev pub tighter : Direction → Limit → Limit → Limit
tighter direction a b = match_ordering (order_from direction a.value b.value) b (if a.inclusive then b else a) a

-- the tighter of the tightest limit so far and another; the other if there is no limit so far
abbrev pub tightened : Direction → Option Limit → Limit → Option Limit
tightened direction None b = Some b
tightened direction (Some a) b = Some (tighter direction a b)
