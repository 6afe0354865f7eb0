-- For private clauses: the ends of the code's ranges among rows.
use Rattle.std.specs.Prelude.{◌≡◌, Option, option_map}
use Rattle.mg_range.specs.SpanEnds.{IsUncrossed, high_end, low_end}
use Rattle.mg_range.specs.Range.{Range, Span}
use Rattle.mg_range.specs.declared.row_range.SpanEnds.{SpanEnds}
use Rattle.mg_rows.specs.declared.edge.Edge.{Edge}
use Rattle.mg_value.specs.Value.{Items}

-- a low end and a high one
abbrev pub BothEnds : Type 0
BothEnds = (Edge × Items) × (Edge × Items)

-- the ends of a span
abbrev pub ends_of : Span → BothEnds
ends_of s = (low_end s, high_end s)

-- the ends that a `SpanEnds` of the code holds
abbrev pub ends_at : SpanEnds → BothEnds
ends_at ends = (ends.low, ends.high)

-- these are the ends of the range, whose limits do not cross; an empty range has no ends
abbrev pub HasEnds : Range → Option SpanEnds → Type 0
HasEnds range ends = IsUncrossed range × (option_map ends_at ends ≡ option_map ends_of range)
