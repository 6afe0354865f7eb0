-- Conditions that say what arms do, one by one, and what they say together.
use Rattle.std.proofs.Common.{◌≡◌, ℕ, ◌&&◌, ◌||◌, List, [], ◌∷◌, ◌++◌, length, Option, Vec, Global, refl, sym, subst, ap₂, rules}
use Rattle.mg_value.specs.Value.{Value}
use Rattle.mg_selector.specs.Meaning.{holds_in, every_arm, some_arm, is_no_arms}
use Rattle.mg_selector.specs.Selector.{members, every, Arms, no_arms, arm}
use Rattle.mg_selector.specs.View.{selector_of, arms_view}
use Rattle.mg_selector.specs.declared.selector.Sel.{Sel}
use Rattle.mg_selector.specs.declared.sense.Sense.{Sense}
use Rattle.mg_selector.specs.declared.sense.Sense.TheVariants.{Plain, Negated}
use Rattle.mg_normal.specs.Atoms.{atoms_in, arms_atoms}
use Rattle.mg_normal.specs.Condition.{Condition as ConditionValue, Conditions, no_conditions, condition, every_condition, some_condition, is_no_conditions, all_of, any_of}
use Rattle.mg_normal.specs.Says.{Says, AllSay, no_atoms, conditions_atoms}
use Rattle.mg_normal.specs.View.{condition_of, conditions_view}
use Rattle.mg_normal.specs.declared.condition.Condition as made
use Rattle.mg_normal.specs.declared.condition.Condition.{Condition, the_lemmas}

-- one more arm, and its condition
pub one_more : (ss : List Sel) (fs : List Condition) (sense : Sense) (s : Sel) (f : Condition) → AllSay (arms_view ss) sense (conditions_view fs)
    → Says (holds_in (selector_of s) sense) (atoms_in (selector_of s) sense) (condition_of f) → AllSay (arms_view (ss ++ s ∷ [])) sense (conditions_view (fs ++ f ∷ []))
one_more [] [] sense s f all one = (one, tt)
one_more [] (g ∷ fs) sense s f all one = absurd all
one_more (t ∷ ss) [] sense s f all one = absurd all
one_more (t ∷ ss) (g ∷ fs) sense s f all one = (all.0, one_more ss fs sense s f all.1 one)

-- there are no conditions exactly if there are no arms
no_conditions_said : (ss : Arms) (sense : Sense) (fs : Conditions) → AllSay ss sense fs → is_no_conditions fs ≡ is_no_arms ss
no_conditions_said no_arms sense no_conditions h = refl
no_conditions_said no_arms sense (condition f fs) h = absurd h
no_conditions_said (arm s ss) sense no_conditions h = absurd h
no_conditions_said (arm s ss) sense (condition f fs) h = refl

-- all conditions hold exactly if all arms do
every_said : (ss : Arms) (sense : Sense) (fs : Conditions) → AllSay ss sense fs → (x : Option Value) → every_condition fs x ≡ every_arm ss sense x
every_said no_arms sense no_conditions h x = refl
every_said no_arms sense (condition f fs) h x = absurd h
every_said (arm s ss) sense no_conditions h x = absurd h
every_said (arm s ss) sense (condition f fs) h x = ap₂ ◌&&◌ (h.0.0 x) (every_said ss sense fs h.1 x)

-- some condition holds exactly if some arm does
some_said : (ss : Arms) (sense : Sense) (fs : Conditions) → AllSay ss sense fs → (x : Option Value) → some_condition fs x ≡ some_arm ss sense x
some_said no_arms sense no_conditions h x = refl
some_said no_arms sense (condition f fs) h x = absurd h
some_said (arm s ss) sense no_conditions h x = absurd h
some_said (arm s ss) sense (condition f fs) h x = ap₂ ◌||◌ (h.0.0 x) (some_said ss sense fs h.1 x)

-- the conditions have the arms' atoms
atoms_said : (ss : Arms) (sense : Sense) (fs : Conditions) → AllSay ss sense fs → (steps : List (List ℕ)) → conditions_atoms fs steps ≡ arms_atoms ss sense steps
atoms_said no_arms sense no_conditions h steps = refl
atoms_said no_arms sense (condition f fs) h steps = absurd h
atoms_said (arm s ss) sense no_conditions h steps = absurd h
atoms_said (arm s ss) sense (condition f fs) h steps = ap₂ ◌++◌ (h.0.1 steps) (atoms_said ss sense fs h.1 steps)

-- what a `Condition` of a list of conditions stands for
pub condition_of-All : (conditions : Vec Condition Global) → condition_of (made.All conditions) ≡ all_of (conditions_view conditions.items)
condition_of-All conditions = search (rules, the_lemmas)

condition_of-Any : (conditions : Vec Condition Global) → condition_of (made.Any conditions) ≡ any_of (conditions_view conditions.items)
condition_of-Any conditions = search (rules, the_lemmas)

-- the condition that requires all of these says that every arm holds
pub all_said : (ss : Arms) (sense : Sense) (conditions : Vec Condition Global) → AllSay ss sense (conditions_view conditions.items) → Says (every_arm ss sense) (arms_atoms ss sense) (condition_of (made.All conditions))
all_said ss sense conditions h =
    let fs = conditions_view conditions.items in
    subst (Says (every_arm ss sense) (arms_atoms ss sense)) (sym (condition_of-All conditions)) (every_said ss sense fs h, atoms_said ss sense fs h)

-- the condition that requires one of these says that some arm holds, or that there is no arm
pub any_said : (ss : Arms) (sense : Sense) (conditions : Vec Condition Global) → AllSay ss sense (conditions_view conditions.items) → Says (λ x. is_no_arms ss || some_arm ss sense x) no_atoms (condition_of (made.Any conditions))
any_said ss sense conditions h =
    let fs = conditions_view conditions.items in
    subst (Says (λ x. is_no_arms ss || some_arm ss sense x) no_atoms) (sym (condition_of-Any conditions)) (λ x. ap₂ ◌||◌ (no_conditions_said ss sense fs h) (some_said ss sense fs h x), λ steps. refl)

-- an object that does not have exactly one member asks what a conjunction asks
pub object_said : (ss : List Sel) (sense : Sense) (f : ConditionValue) → (length ss ≡ 1 → ⊥)
    → Says (holds_in (every (arms_view ss)) sense) (atoms_in (every (arms_view ss)) sense) f
    → Says (holds_in (members (arms_view ss)) sense) (atoms_in (members (arms_view ss)) sense) f
object_said ss Plain f not_one h = h
object_said [] Negated f not_one h = h
object_said (s ∷ []) Negated f not_one h = absurd (not_one refl)
object_said (s ∷ t ∷ ss) Negated f not_one h = h
