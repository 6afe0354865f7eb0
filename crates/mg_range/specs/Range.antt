-- Key ranges: which keys of an index a query has to look at, by the bounds that the query's atoms give. `range` of CouchDB's
-- `_explain` shows them. The rule is this project's own.
use Rattle.std.specs.Prelude.{List, [], ◌∷◌, Bool, true, false, not, ◌&&◌, Option, Some, None, option_map, refl, if◌then◌else◌}
use Rattle.std.specs.Coded.{Coded, code_by, coded×, coded_bool, coded_list, coded_option}
use Rattle.std.specs.List.{filter_map, find}
use Rattle.std.specs.Ordering.{bool_cmp, flip_args, match_ordering, on, then_cmp}
use Rattle.std.specs.declared.cmp.Ordering.{Ordering}
use Rattle.mg_value.specs.Value.{Value}
use Rattle.mg_value.specs.Code.{value_code}
use Rattle.mg_collate.specs.Direction.{directed}
use Rattle.mg_collate.specs.Order.{value_order}
use Rattle.mg_collate.specs.declared.direction.Direction.{Direction}
use Rattle.mg_collate.specs.declared.direction.Direction.TheVariants.{Asc, Desc}
use Rattle.mg_normal.specs.Atoms.{Atom}
use Rattle.mg_index.specs.Bound.{Bound, bounds_on, is_exact, is_fixed, meets_all}
use Rattle.mg_index.specs.Choice.{least}
use Rattle.mg_index.specs.Definition.{Steps}
use Rattle.mg_index.specs.declared.bound.Comparison.{Comparison}
use Rattle.mg_index.specs.declared.bound.Comparison.TheVariants.{Below, AtMost, Exactly, AtLeast, Above}

-- ---- the range as a set of keys

-- the key, one value for each column, is in the range: its values meet every bound on the bounded columns, which are the leading
-- ones whose value is fixed and the next one
abbrev pub in_range : List Atom → List Steps → List Value → Bool
in_range atoms (c ∷ cs) (v ∷ vs) = meets_all v (bounds_on atoms c) && (if is_fixed atoms c then in_range atoms cs vs else true)
in_range atoms columns key = true

-- ---- the range by its tightest bounds

-- a limit on the values of a column: a value, and whether that value itself is within the limit
pub record Limit : Type 0 where
  pub value : Value
  pub inclusive : Bool

-- the limit at this value, inclusive or exclusive
abbrev pub limit_at : Value → Bool → Limit
limit_at value inclusive = record { value = value; inclusive = inclusive }

-- the fixed values of the leading columns, and limits on the value of the next one
pub record Span : Type 0 where
  pub equal : List Value
  pub lower : Option Limit
  pub upper : Option Limit

-- the span of these fixed values and limits
abbrev pub span_of : List Value → Option Limit → Option Limit → Span
span_of equal lower upper = record { equal = equal; lower = lower; upper = upper }

-- a range: a span, or `None` if the range is empty
abbrev pub Range : Type 0
Range = Option Span

-- the order of values from below (`Asc`) or from above (`Desc`)
abbrev pub order_from : Direction → Value → Value → Ordering
order_from direction a b = directed direction (value_order a b)

-- whether a comparison allows the value itself; `None` if the comparison gives no limit from below (`Asc`) or from above (`Desc`)
abbrev pub inclusive_from : Direction → Comparison → Option Bool
inclusive_from Asc Below = None
inclusive_from Asc AtMost = None
inclusive_from Asc Exactly = Some true
inclusive_from Asc AtLeast = Some true
inclusive_from Asc Above = Some false
inclusive_from Desc Below = Some false
inclusive_from Desc AtMost = Some true
inclusive_from Desc Exactly = Some true
inclusive_from Desc AtLeast = None
inclusive_from Desc Above = None

-- the limit that a comparison with a value gives from below or from above, if it gives one
abbrev pub limit_by : Direction → Comparison → Value → Option Limit
limit_by direction comparison v = option_map (limit_at v) (inclusive_from direction comparison)

-- the limit that a bound gives from below or from above, if it gives one
abbrev pub limit_of : Direction → Bound → Option Limit
limit_of direction b = limit_by direction b.comparison b.value

-- the order of limits from below or from above, the tighter first: by their values; if these are equal, the exclusive limit first
abbrev pub tightness : Direction → Limit → Limit → Ordering
tightness direction = then_cmp (flip_args (on (λ l. l.value) (order_from direction))) (on (λ l. l.inclusive) bool_cmp)

-- the tightest limit that bounds give from below or from above, if they give one
abbrev pub tightest : Direction → List Bound → Option Limit
tightest direction bounds = least (tightness direction) (filter_map (limit_of direction) bounds)

-- the lower limit is above the upper one, or equal to it while one of them is exclusive
abbrev pub are_crossed : Limit → Limit → Bool
are_crossed lower upper = match_ordering (value_order lower.value upper.value) false (not (lower.inclusive && upper.inclusive)) true

-- whether both limits are there and crossed
abbrev pub is_crossed : Option Limit → Option Limit → Bool
is_crossed (Some lower) (Some upper) = are_crossed lower upper
is_crossed lower upper = false

-- the range between two limits, each of which may be absent; it is empty if they are crossed
abbrev pub between : Option Limit → Option Limit → Range
between lower upper = if is_crossed lower upper then None else Some (span_of [] lower upper)

-- the range with one more fixed value, in front of its own; an empty range stays empty
abbrev pub with_equal : Value → Range → Range
with_equal v rest = option_map (λ s. span_of (v ∷ s.equal) s.lower s.upper) rest

-- the range of columns, given the bounds on the first column, the exact one among them, and the range of the other columns: the exact
-- bound's value in front of the other columns' range, or the empty range if the value breaks another bound; without an exact bound, the
-- range between the tightest limits
abbrev pub range_from : List Bound → Option Bound → Range → Range
range_from bounds (Some fixed) rest = if meets_all fixed.value bounds then with_equal fixed.value rest else None
range_from bounds None rest = between (tightest Asc bounds) (tightest Desc bounds)

-- the range that the atoms give an index of these columns
abbrev pub range_of : List Atom → List Steps → Range
range_of atoms [] = Some (span_of [] None None)
range_of atoms (c ∷ cs) = range_from (bounds_on atoms c) (find is_exact (bounds_on atoms c)) (range_of atoms cs)

-- ---- how the logic stores a range

-- how the logic stores a limit
abbrev pub limit_code : Coded Limit
limit_code = code_by (Value × Bool) (coded× value_code coded_bool) (λ l. (l.value, l.inclusive)) (λ p. limit_at p.0 p.1) (λ _. refl)

-- how the logic stores a span
abbrev pub span_code : Coded Span
span_code =
    code_by (List Value × (Option Limit × Option Limit)) (coded× (coded_list value_code) (coded× (coded_option limit_code) (coded_option limit_code)))
    (λ s. (s.equal, (s.lower, s.upper))) (λ p. span_of p.0 p.1.0 p.1.1) (λ _. refl)

-- how the logic stores a range
abbrev pub range_code : Coded Range
range_code = coded_option span_code
