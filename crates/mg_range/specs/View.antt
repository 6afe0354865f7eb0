-- What the limits and spans of the code stand for.
use Rattle.std.specs.Prelude.{List, ◌++◌, map, option_map}
use Rattle.mg_value.specs.Value.{Value}
use Rattle.mg_value.specs.View.{view}
use Rattle.mg_range.specs.Range.{Limit, Span, Range, limit_at, span_of}
use Rattle.mg_range.specs.declared.span.Limit as limit
use Rattle.mg_range.specs.declared.span.Span as span

-- the limit that a `Limit` of the code stands for
abbrev pub limit_view : limit.Limit → Limit
limit_view l = limit_at (view l.value) l.inclusive

-- the span that a `Span` of the code stands for
abbrev pub span_view : span.Span → Span
span_view s = span_of (map view s.equal.items) (option_map limit_view s.lower) (option_map limit_view s.upper)

-- for private clauses: the range with these fixed values in front of its own; an empty range stays empty
abbrev pub with_equals : List Value → Range → Range
with_equals vs range = option_map (λ s. span_of (vs ++ s.equal) s.lower s.upper) range
