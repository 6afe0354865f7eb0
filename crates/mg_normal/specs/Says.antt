-- For private clauses: the atoms of a condition, what it requires besides them, and whether it says what a selector says.
use Rattle.std.specs.Prelude.{◌≡◌, ℕ, Bool, List, [], ◌∷◌, ◌++◌, Option, Some, None, option_map, ⊤}
use Rattle.mg_value.specs.Value.{Value}
use Rattle.mg_selector.specs.Meaning.{holds_in}
use Rattle.mg_selector.specs.Selector.{Arms, no_arms, arm}
use Rattle.mg_selector.specs.declared.sense.Sense.{Sense}
use Rattle.mg_normal.specs.Atoms.{Atom, atoms_in}
use Rattle.mg_normal.specs.Condition.{Condition, Conditions, all_of, any_of, within, asked, no_conditions, condition, condition_holds}

abbrev mutual
  -- the atoms of a condition on the part at the steps: all its operators but those inside an `any_of`, even if that has only one condition
  pub condition_atoms : Condition → List (List ℕ) → List Atom
  condition_atoms (all_of fs) steps = conditions_atoms fs steps
  condition_atoms (any_of fs) steps = []
  condition_atoms (within more f) steps = condition_atoms f (steps ++ more)
  condition_atoms (asked o sense) steps = record { steps = steps; operator = o; sense = sense } ∷ []

  -- the atoms of all the conditions, in order
  pub conditions_atoms : Conditions → List (List ℕ) → List Atom
  conditions_atoms no_conditions steps = []
  conditions_atoms (condition f fs) steps = condition_atoms f steps ++ conditions_atoms fs steps

-- the conditions as one condition that requires all of them; `None` if there are none
abbrev pub all_left : Conditions → Option Condition
all_left no_conditions = None
all_left (condition f fs) = Some (all_of (condition f fs))

-- the conditions, with the rest of one more condition in front, if it has a rest
abbrev pub with_left : Option Condition → Conditions → Conditions
with_left None fs = fs
with_left (Some f) fs = condition f fs

abbrev mutual
  -- what the condition requires besides its atoms, if anything
  pub rest_of : Condition → Option Condition
  rest_of (all_of fs) = all_left (rests_of fs)
  rest_of (any_of fs) = Some (any_of fs)
  rest_of (within more f) = option_map (within more) (rest_of f)
  rest_of (asked o sense) = None

  -- the rests of those conditions that have one
  pub rests_of : Conditions → Conditions
  rests_of no_conditions = no_conditions
  rests_of (condition f fs) = with_left (rest_of f) (rests_of fs)

-- the condition holds of exactly the parts that `holds` accepts, and for any steps its atoms are those that `atoms` gives for these steps
abbrev pub Says : (Option Value → Bool) → (List (List ℕ) → List Atom) → Condition → Type 0
Says holds atoms f = ((x : Option Value) → condition_holds f x ≡ holds x) × ((steps : List (List ℕ)) → condition_atoms f steps ≡ atoms steps)

-- each condition says what the arm at its index says in the sense, and there are as many conditions as arms
abbrev pub AllSay : Arms → Sense → Conditions → Type 0
AllSay no_arms sense no_conditions = ⊤
AllSay (arm s ss) sense (condition f fs) = Says (holds_in s sense) (atoms_in s sense) f × AllSay ss sense fs
AllSay ss sense fs = ⊥

-- an empty list of atoms, for any steps
abbrev pub no_atoms : List (List ℕ) → List Atom
no_atoms steps = []
