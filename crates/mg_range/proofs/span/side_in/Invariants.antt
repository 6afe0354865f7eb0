use Rattle.std.proofs.Common.{◌≡◌, ◌≤◌, drop, length, map, option_map}
use Rattle.mg_value.specs.View.{view}
use Rattle.mg_range.specs.RangeSide.{side_from}
use Rattle.mg_range.specs.View.{limit_view}
use Rattle.mg_range.proofs.span.side_in.Given as goal

-- the values so far are equal
abbrev pub invariant-loop-place : goal.invariant-loop-place
invariant-loop-place l =
    let lower = option_map limit_view l.span.lower in
    let upper = option_map limit_view l.span.upper in
    (l.place ≤ length l.key)
    × (side_from (map view l.span.equal.items) lower upper (map view l.key) ≡ side_from (map view (drop l.place l.span.equal.items)) lower upper (map view (drop l.place l.key)))
