-- Bounds on a column: how the atoms of a selector require its values to compare with other values, after the operators of CouchDB's
-- `_find`. Two rules are this project's own: an operator in the negated sense gives the bound of its opposite; `$ne` in the plain
-- sense, `$eq` in the negated one, and the operators that do not compare give no bound.
use Rattle.std.specs.Prelude.{ℕ, suc, List, [], ◌∷◌, Bool, true, false, Option, Some, None, option_and_then, if◌then◌else◌}
use Rattle.std.specs.List.{list_all, list_any, filter_map}
use Rattle.std.specs.Ordering.{is_lt, is_le, is_eq, is_ge, is_gt}
use Rattle.std.specs.declared.cmp.Ordering.{Ordering}
use Rattle.mg_value.specs.Value.{Value}
use Rattle.mg_collate.specs.Order.{value_order}
use Rattle.mg_path.specs.Equal.{path_eq}
use Rattle.mg_selector.specs.Selector.{Operator, less, at_most, equal, unequal, at_least, greater}
use Rattle.mg_selector.specs.declared.sense.Sense.{Sense}
use Rattle.mg_selector.specs.declared.sense.Sense.TheVariants.{Plain, Negated}
use Rattle.mg_normal.specs.Atoms.{Atom}
use Rattle.mg_index.specs.Definition.{Steps}
use Rattle.mg_index.specs.declared.bound.Comparison.{Comparison}
use Rattle.mg_index.specs.declared.bound.Comparison.TheVariants.{Below, AtMost, Exactly, AtLeast, Above}

-- a bound on the values of a column: how they compare with a value
pub record Bound : Type 0 where
  pub comparison : Comparison
  pub value : Value

-- the bound by this comparison with this value
abbrev pub bound_by : Comparison → Value → Bound
bound_by comparison value = record { comparison = comparison; value = value }

-- whether the comparison allows a value that has this order to the bound's value
abbrev pub allows : Comparison → Ordering → Bool
allows Below o = is_lt o
allows AtMost o = is_le o
allows Exactly o = is_eq o
allows AtLeast o = is_ge o
allows Above o = is_gt o

-- whether the value meets the bound
abbrev pub meets : Value → Bound → Bool
meets v b = allows b.comparison (value_order v b.value)

-- the bound that an operator gives in the plain sense; `None` for `$ne` and for an operator that does not compare
abbrev pub plain_bound : Operator → Option Bound
plain_bound (less v) = Some (bound_by Below v)
plain_bound (at_most v) = Some (bound_by AtMost v)
plain_bound (equal v) = Some (bound_by Exactly v)
plain_bound (at_least v) = Some (bound_by AtLeast v)
plain_bound (greater v) = Some (bound_by Above v)
plain_bound o = None

-- the opposite of an operator that compares: of a part that is there, it holds if and only if the operator does not;
-- `None` for an operator that does not compare
abbrev pub opposite_of : Operator → Option Operator
opposite_of (less v) = Some (at_least v)
opposite_of (at_most v) = Some (greater v)
opposite_of (equal v) = Some (unequal v)
opposite_of (unequal v) = Some (equal v)
opposite_of (at_least v) = Some (less v)
opposite_of (greater v) = Some (at_most v)
opposite_of o = None

-- the bound that an operator gives in a sense: in the negated sense, the bound of its opposite; `None` if it gives no bound
abbrev pub bound_in : Sense → Operator → Option Bound
bound_in Plain o = plain_bound o
bound_in Negated o = option_and_then plain_bound (opposite_of o)

-- the bound that the atom gives on the column: the bound of its operator in its sense; `None` if that gives no bound, or
-- if the atom is not on the part at the column's path
abbrev pub bound_on : Steps → Atom → Option Bound
bound_on column a = if path_eq a.steps column then bound_in a.sense a.operator else None

-- the bounds that the atoms give on the column
abbrev pub bounds_on : List Atom → Steps → List Bound
bounds_on atoms column = filter_map (bound_on column) atoms

-- whether the value meets each of the bounds
abbrev pub meets_all : Value → List Bound → Bool
meets_all v bounds = list_all (meets v) bounds

-- whether the comparison allows one value alone
abbrev pub is_exactly : Comparison → Bool
is_exactly Exactly = true
is_exactly c = false

-- whether the bound allows one value alone
abbrev pub is_exact : Bound → Bool
is_exact b = is_exactly b.comparison

-- whether the atoms fix the value of the column: they give a bound on it that allows one value alone
abbrev pub is_fixed : List Atom → Steps → Bool
is_fixed atoms column = list_any is_exact (bounds_on atoms column)

-- whether the atoms give any bound on the column
abbrev pub is_bounded : List Atom → Steps → Bool
is_bounded atoms column = list_any (λ b. true) (bounds_on atoms column)

-- how many columns are bounded: the leading ones whose value is fixed, and the next one if it has a bound
abbrev pub bounded_count : List Atom → List Steps → ℕ
bounded_count atoms [] = 0
bounded_count atoms (c ∷ cs) = if is_fixed atoms c then suc (bounded_count atoms cs) else if is_bounded atoms c then 1 else 0
