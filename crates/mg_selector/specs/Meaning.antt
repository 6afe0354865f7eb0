-- When a selector holds, in a sense, of a part that may be missing, after the selector syntax of the CouchDB 3.x API reference.
-- The meaning of negation, of missing parts and of empty lists of arms is this project's own choice. `$not` evaluates its selector
-- in the other sense, which is passed down to the operators. Of the operators, only `$exists` can hold of a missing part, whatever
-- the sense; a selector with an empty list of arms holds in both senses. So a selector and its `$not` may both hold, or neither.
use Rattle.std.specs.Prelude.{Bool, true, false, not, ◌&&◌, ◌||◌, Option, Some, None, option_and_then, is_some, if◌then◌else◌}
use Rattle.std.specs.Ordering.{is_lt, is_le, is_eq, is_ne, is_ge, is_gt}
use Rattle.mg_value.specs.Value.{Value}
use Rattle.mg_collate.specs.Order.{value_order}
use Rattle.mg_path.specs.Part.{part_of}
use Rattle.mg_selector.specs.Predicate.{has_type, meets_some, has_size, has_remainder, contains_all, has_element, has_only_elements}
use Rattle.mg_selector.specs.Selector.{Selector, members, every, some, none, opposite, at, asks, Arms, no_arms, arm, Operator, less, at_most, equal, unequal, at_least, greater, exists, of_type, among, not_among, size, modulo, containing, some_element, each_element}
use Rattle.mg_selector.specs.declared.sense.Sense.{Sense}
use Rattle.mg_selector.specs.declared.sense.Sense.TheVariants.{Plain, Negated}

-- the other sense
abbrev pub flip : Sense → Sense
flip Plain = Negated
flip Negated = Plain

-- the answer in a sense, given the answer in the plain sense: its negation in the negated sense
abbrev pub in_sense : Sense → Bool → Bool
in_sense Plain b = b
in_sense Negated b = not b

-- whether an operator other than `$exists` holds of a part in a sense, where `predicate` says whether it holds of a value in the plain
-- sense; false for a missing part
abbrev pub on_part : (Value → Bool) → Sense → Option Value → Bool
on_part predicate sense None = false
on_part predicate sense (Some v) = in_sense sense (predicate v)

-- there is no arm
abbrev pub is_no_arms : Arms → Bool
is_no_arms no_arms = true
is_no_arms (arm s ss) = false

abbrev mutual
  -- the selector holds, in the sense, of the part, which may be missing
  pub holds_in : Selector → Sense → Option Value → Bool
  holds_in (members ss) Plain x = every_arm ss Plain x
  holds_in (members ss) Negated x = is_no_arms ss || some_arm ss Negated x
  holds_in (every ss) Plain x = every_arm ss Plain x
  holds_in (every ss) Negated x = is_no_arms ss || some_arm ss Negated x
  holds_in (some ss) Plain x = is_no_arms ss || some_arm ss Plain x
  holds_in (some ss) Negated x = every_arm ss Negated x
  holds_in (none ss) Plain x = every_arm ss Negated x
  holds_in (none ss) Negated x = is_no_arms ss || some_arm ss Plain x
  holds_in (opposite s) sense x = holds_in s (flip sense) x
  holds_in (at steps s) sense x = holds_in s sense (option_and_then (part_of steps) x)
  holds_in (asks o) sense x = operator_holds o sense x

  -- each arm holds, in the sense, of the part; true without arms
  pub every_arm : Arms → Sense → Option Value → Bool
  every_arm no_arms sense x = true
  every_arm (arm s ss) sense x = holds_in s sense x && every_arm ss sense x

  -- some arm holds, in the sense, of the part; false without arms
  pub some_arm : Arms → Sense → Option Value → Bool
  some_arm no_arms sense x = false
  some_arm (arm s ss) sense x = holds_in s sense x || some_arm ss sense x

  -- the operator holds, in the sense, of the part, which may be missing; inside `$elemMatch` and `$allMatch` the sense is plain again
  pub operator_holds : Operator → Sense → Option Value → Bool
  operator_holds (less w) sense x = on_part (λ v. is_lt (value_order v w)) sense x
  operator_holds (at_most w) sense x = on_part (λ v. is_le (value_order v w)) sense x
  operator_holds (equal w) sense x = on_part (λ v. is_eq (value_order v w)) sense x
  operator_holds (unequal w) sense x = on_part (λ v. is_ne (value_order v w)) sense x
  operator_holds (at_least w) sense x = on_part (λ v. is_ge (value_order v w)) sense x
  operator_holds (greater w) sense x = on_part (λ v. is_gt (value_order v w)) sense x
  operator_holds (exists there) sense x = in_sense sense (if there then is_some x else not (is_some x))
  operator_holds (of_type t) sense x = on_part (has_type t) sense x
  operator_holds (among ws) sense x = on_part (meets_some ws) sense x
  operator_holds (not_among ws) sense x = on_part (λ v. not (meets_some ws v)) sense x
  operator_holds (size n) sense x = on_part (has_size n) sense x
  operator_holds (modulo d r) sense x = on_part (has_remainder d r) sense x
  operator_holds (containing ws) sense x = on_part (contains_all ws) sense x
  operator_holds (some_element s) sense x = on_part (has_element (λ v. holds_in s Plain (Some v))) sense x
  operator_holds (each_element s) sense x = on_part (has_only_elements (λ v. holds_in s Plain (Some v))) sense x
