-- A condition holds exactly if its atoms and its rest hold.
use Rattle.std.proofs.Common.{◌≡◌, ℕ, Bool, true, false, ◌&&◌, List, [], ◌∷◌, ◌++◌, length, Option, Some, None, option_and_then, option_map, refl, ap, ap₂, sym, ◌∙◌}
use Rattle.mg_value.specs.Value.{Value}
use Rattle.mg_path.specs.Part.{part_of}
use Rattle.mg_selector.specs.Meaning.{holds_in, operator_holds}
use Rattle.mg_selector.specs.Selector.{Selector}
use Rattle.mg_selector.specs.declared.sense.Sense.TheVariants.{Plain}
use Rattle.mg_normal.specs.Atoms.{Atom, atom_holds, atoms_in}
use Rattle.mg_normal.specs.Condition.{Condition as ConditionValue, Conditions, all_of, any_of, within, asked, no_conditions, condition, condition_holds, every_condition}
use Rattle.mg_normal.specs.Normal.{all_hold, rest_holds}
use Rattle.mg_normal.specs.Says.{Says, condition_atoms, conditions_atoms, rest_of, rests_of, all_left, with_left}
use Rattle.mg_normal.specs.View.{condition_of, conditions_view}
use Rattle.mg_normal.specs.declared.condition.Condition.{Condition}
use Rattle.mg_normal.proofs.Necessary.{part_of-append}

-- what the list of `Condition` stands for, and then the conditions in `rest`
abbrev pub conditions_before : List Condition → Conditions → Conditions
conditions_before [] rest = rest
conditions_before (f ∷ fs) rest = condition (condition_of f) (conditions_before fs rest)

pub conditions_before-all : (fs : List Condition) → conditions_before fs no_conditions ≡ conditions_view fs
conditions_before-all [] = refl
conditions_before-all (f ∷ fs) = ap (condition (condition_of f)) (conditions_before-all fs)

pub conditions_before-push : (fs : List Condition) (f : Condition) (rest : Conditions) → conditions_before fs (condition (condition_of f) rest) ≡ conditions_before (fs ++ f ∷ []) rest
conditions_before-push [] f rest = refl
conditions_before-push (g ∷ fs) f rest = ap (condition (condition_of g)) (conditions_before-push fs f rest)

-- one more condition that has a rest
pub one_left : (rest : List Condition) (left : Condition) (f : ConditionValue) (rs : Conditions) → Some (condition_of left) ≡ rest_of f → conditions_before rest (with_left (rest_of f) rs) ≡ conditions_before (rest ++ left ∷ []) rs
one_left rest left f rs e = ap (λ r. conditions_before rest (with_left r rs)) (sym e) ∙ conditions_before-push rest left rs

pub all_left-some : (fs : List Condition) → (length fs ≡ 0 → ⊥) → all_left (conditions_view fs) ≡ Some (all_of (conditions_view fs))
all_left-some [] some = absurd (some refl)
all_left-some (f ∷ fs) some = refl

and_true : (b : Bool) → b ≡ ((b && true) && true)
and_true true = refl
and_true false = refl

-- a conjunction of two pairs is that of their first parts and their second parts
pairs : (a r b s : Bool) → ((a && r) && (b && s)) ≡ ((a && b) && (r && s))
pairs true true b s = refl
pairs true false true s = refl
pairs true false false s = refl
pairs false r b s = refl

and_assoc : (a b d : Bool) → (a && (b && d)) ≡ ((a && b) && d)
and_assoc true b d = refl
and_assoc false b d = refl

all_hold-append : (x : Option Value) (atoms more : List Atom) → all_hold x (atoms ++ more) ≡ (all_hold x atoms && all_hold x more)
all_hold-append x [] more = refl
all_hold-append x (a ∷ atoms) more = ap (λ b. atom_holds x a && b) (all_hold-append x atoms more) ∙ and_assoc (atom_holds x a) (all_hold x atoms) (all_hold x more)

rest_holds-all_left : (fs : Conditions) (x : Option Value) → every_condition fs x ≡ rest_holds (all_left fs) x
rest_holds-all_left no_conditions x = refl
rest_holds-all_left (condition f fs) x = refl

rest_holds-within : (more : List (List ℕ)) (r : Option ConditionValue) (x : Option Value) → rest_holds r (option_and_then (part_of more) x) ≡ rest_holds (option_map (within more) r) x
rest_holds-within more None x = refl
rest_holds-within more (Some f) x = refl

every_condition-with_left : (r : Option ConditionValue) (fs : Conditions) (x : Option Value) → (rest_holds r x && every_condition fs x) ≡ every_condition (with_left r fs) x
every_condition-with_left None fs x = refl
every_condition-with_left (Some f) fs x = refl

-- a condition holds of the part at the steps exactly if its atoms and its rest hold
mutual
  parted : (f : ConditionValue) (steps : List (List ℕ)) (x : Option Value)
      → condition_holds f (option_and_then (part_of steps) x) ≡ (all_hold x (condition_atoms f steps) && rest_holds (rest_of f) (option_and_then (part_of steps) x))
  parted (all_of fs) steps x = all_parted fs steps x ∙ ap (λ b. all_hold x (conditions_atoms fs steps) && b) (rest_holds-all_left (rests_of fs) (option_and_then (part_of steps) x))
  parted (any_of fs) steps x = refl
  parted (within more f) steps x =
      sym (ap (condition_holds f) (part_of-append steps more x)) ∙ parted f (steps ++ more) x
      ∙ ap (λ b. all_hold x (condition_atoms f (steps ++ more)) && b)
      (ap (rest_holds (rest_of f)) (part_of-append steps more x) ∙ rest_holds-within more (rest_of f) (option_and_then (part_of steps) x))
  parted (asked o sense) steps x = and_true (operator_holds o sense (option_and_then (part_of steps) x))

  all_parted : (fs : Conditions) (steps : List (List ℕ)) (x : Option Value)
      → every_condition fs (option_and_then (part_of steps) x) ≡ (all_hold x (conditions_atoms fs steps) && every_condition (rests_of fs) (option_and_then (part_of steps) x))
  all_parted no_conditions steps x = refl
  all_parted (condition f fs) steps x =
      let y = option_and_then (part_of steps) x in
      ap₂ ◌&&◌ (parted f steps x) (all_parted fs steps x)
      ∙ pairs (all_hold x (condition_atoms f steps)) (rest_holds (rest_of f) y) (all_hold x (conditions_atoms fs steps)) (every_condition (rests_of fs) y)
      ∙ ap₂ ◌&&◌ (sym (all_hold-append x (condition_atoms f steps) (conditions_atoms fs steps))) (every_condition-with_left (rest_of f) (rests_of fs) y)

parted_whole : (f : ConditionValue) (x : Option Value) → condition_holds f x ≡ (all_hold x (condition_atoms f []) && rest_holds (rest_of f) x)
parted_whole f None = parted f [] None
parted_whole f (Some v) = parted f [] (Some v)

-- the atoms and the rest of a condition that stands for a selector hold together exactly if the selector holds
pub normal_meaning : (s : Selector) (f : ConditionValue) (atoms : List Atom) (rest : Option ConditionValue) → Says (holds_in s Plain) (atoms_in s Plain) f
    → atoms ≡ condition_atoms f [] → rest ≡ rest_of f → (x : Option Value) → (all_hold x atoms && rest_holds rest x) ≡ holds_in s Plain x
normal_meaning s f atoms rest says a r x = ap₂ (λ ys q. all_hold x ys && rest_holds q x) a r ∙ sym (parted_whole f x) ∙ says.0 x
