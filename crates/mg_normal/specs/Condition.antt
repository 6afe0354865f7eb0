-- Selectors in which only operators are negated, after the selector syntax of the CouchDB 3.x API reference and De Morgan's laws.
-- An empty list of conditions holds, both as `all_of` and as `any_of`; this is the project's own choice, as for selectors.
use Rattle.std.specs.Prelude.{ℕ, Bool, true, false, ◌&&◌, ◌||◌, List, Option, option_and_then}
use Rattle.mg_value.specs.Value.{Value}
use Rattle.mg_path.specs.Part.{part_of}
use Rattle.mg_selector.specs.Meaning.{operator_holds}
use Rattle.mg_selector.specs.Selector.{Operator}
use Rattle.mg_selector.specs.declared.sense.Sense.{Sense}

mutual
  -- a selector in which only operators are negated
  pub data Condition : Type 0 where
    -- all of the conditions
    all_of : Conditions → Condition
    -- at least one of the conditions; true also for an empty list
    any_of : Conditions → Condition
    -- the condition on the part at the steps
    within : List (List ℕ) → Condition → Condition
    -- an operator on the current part, in a sense
    asked : Operator → Sense → Condition

  -- conditions, one after another
  pub data Conditions : Type 0 where
    no_conditions : Conditions
    condition : Condition → Conditions → Conditions

-- there is no condition
abbrev pub is_no_conditions : Conditions → Bool
is_no_conditions no_conditions = true
is_no_conditions (condition f fs) = false

abbrev mutual
  -- the condition holds of the part, which may be missing
  pub condition_holds : Condition → Option Value → Bool
  condition_holds (all_of fs) x = every_condition fs x
  condition_holds (any_of fs) x = is_no_conditions fs || some_condition fs x
  condition_holds (within steps f) x = condition_holds f (option_and_then (part_of steps) x)
  condition_holds (asked o sense) x = operator_holds o sense x

  -- each condition holds
  pub every_condition : Conditions → Option Value → Bool
  every_condition no_conditions x = true
  every_condition (condition f fs) x = condition_holds f x && every_condition fs x

  -- some condition holds
  pub some_condition : Conditions → Option Value → Bool
  some_condition no_conditions x = false
  some_condition (condition f fs) x = condition_holds f x || some_condition fs x
