-- The selector that a `Sel` stands for, and the operator that an `Op` stands for.
use Rattle.std.specs.Prelude.{List, [], ◌∷◌, map}
use Rattle.std.specs.Int.NonZero.{non_zero_i64_get}
use Rattle.mg_value.specs.View.{view, items_view}
use Rattle.mg_selector.specs.Selector.{Selector, members, every, some, none, opposite, at, asks, Arms, no_arms, arm, Operator, less, at_most, equal, unequal, at_least, greater, exists, of_type, among, not_among, size, modulo, containing, some_element, each_element}
use Rattle.mg_selector.specs.declared.operator.Op.{Op, fold-Op}
use Rattle.mg_selector.specs.declared.operator.Op.TheOpen.{Op-F, Sel-F}
use Rattle.mg_selector.specs.declared.selector.Sel.{Sel, fold-Sel}

-- the selectors as arms
abbrev pub arms_of : List Selector → Arms
arms_of [] = no_arms
arms_of (s ∷ ss) = arm s (arms_of ss)

-- the operator that one level of an `Op` stands for, given what each selector inside stands for
abbrev pub operator_step : Op-F Operator Selector → Operator
operator_step (Op-F.Lt v) = less (view v)
operator_step (Op-F.Lte v) = at_most (view v)
operator_step (Op-F.Eq v) = equal (view v)
operator_step (Op-F.Ne v) = unequal (view v)
operator_step (Op-F.Gte v) = at_least (view v)
operator_step (Op-F.Gt v) = greater (view v)
operator_step (Op-F.Exists there) = exists there
operator_step (Op-F.Type t) = of_type t
operator_step (Op-F.In vs) = among (items_view vs.items)
operator_step (Op-F.Nin vs) = not_among (items_view vs.items)
operator_step (Op-F.Size n) = size n
operator_step (Op-F.Mod d r) = modulo (non_zero_i64_get d) r
operator_step (Op-F.All vs) = containing (items_view vs.items)
operator_step (Op-F.ElemMatch s) = some_element s.value
operator_step (Op-F.AllMatch s) = each_element s.value

-- the selector that one level of a `Sel` stands for, given what each selector and operator inside stands for
abbrev pub selector_step : Sel-F Operator Selector → Selector
selector_step (Sel-F.Members ss) = members (arms_of ss.items)
selector_step (Sel-F.And ss) = every (arms_of ss.items)
selector_step (Sel-F.Or ss) = some (arms_of ss.items)
selector_step (Sel-F.Nor ss) = none (arms_of ss.items)
selector_step (Sel-F.Not s) = opposite s.value
selector_step (Sel-F.At path s) = at path s.value
selector_step (Sel-F.Ask o) = asks o

-- the selector that a `Sel` stands for
abbrev pub selector_of : Sel → Selector
selector_of = fold-Sel Operator Selector operator_step selector_step

-- the operator that an `Op` stands for
abbrev pub operator_of : Op → Operator
operator_of = fold-Op Operator Selector operator_step selector_step

-- the arms that a list of `Sel` stands for
abbrev pub arms_view : List Sel → Arms
arms_view ss = arms_of (map selector_of ss)
