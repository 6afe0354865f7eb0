-- The two ends of a span among rows, each before or after all rows whose key begins with some values. The rule is this project's own.
use Rattle.std.specs.Prelude.{◌≡◌, List, [], ◌∷◌, false, Option, Some, None, if◌then◌else◌}
use Rattle.mg_value.specs.Value.{Value, Items, no_items, item}
use Rattle.mg_range.specs.Range.{Limit, Range, Span, is_crossed}
use Rattle.mg_rows.specs.declared.edge.Edge.{Edge}
use Rattle.mg_rows.specs.declared.edge.Edge.TheVariants.{Before, After}

-- the values of an end: the fixed values, and then the limit's value, if there is a limit
abbrev pub end_values : List Value → Option Limit → Items
end_values [] None = no_items
end_values [] (Some l) = item l.value no_items
end_values (e ∷ es) limit = item e (end_values es limit)

-- the edge of the low end: before the rows with its values, or after them if the limit excludes its value
abbrev pub low_edge : Option Limit → Edge
low_edge None = Before
low_edge (Some l) = if l.inclusive then Before else After

-- the edge of the high end: after the rows with its values, or before them if the limit excludes its value
abbrev pub high_edge : Option Limit → Edge
high_edge None = After
high_edge (Some u) = if u.inclusive then After else Before

-- the low end of a span
abbrev pub low_end : Span → Edge × Items
low_end s = (low_edge s.lower, end_values s.equal s.lower)

-- the high end of a span
abbrev pub high_end : Span → Edge × Items
high_end s = (high_edge s.upper, end_values s.equal s.upper)

-- the limits of the range do not cross, so that no key is both below the low end and above the high one
abbrev pub IsUncrossed : Range → Type 0
IsUncrossed None = Unit {0}
IsUncrossed (Some s) = is_crossed s.lower s.upper ≡ false
