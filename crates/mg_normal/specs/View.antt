-- The condition that a `Condition` stands for, the steps of a `Prefix`, and the atom that an `Atom` stands for.
use Rattle.std.specs.Arc.{arc_value}
use Rattle.std.specs.Prelude.{ℕ, Bool, true, false, List, [], ◌∷◌, ◌++◌, map, Option, Some, None}
use Rattle.std.specs.declared.alloc.Global.{Global}
use Rattle.std.specs.declared.sync.Arc.{Arc}
use Rattle.mg_selector.specs.View.{operator_of}
use Rattle.mg_selector.specs.declared.sense.Sense.{Sense}
use Rattle.mg_selector.specs.declared.sense.Sense.TheVariants.{Plain, Negated}
use Rattle.mg_normal.specs.Atoms.{Atom as AtomValue}
use Rattle.mg_normal.specs.Condition.{Condition as ConditionValue, Conditions, all_of, any_of, within, asked, no_conditions, condition}
use Rattle.mg_normal.specs.declared.atom.Atom.{Atom}
use Rattle.mg_normal.specs.declared.condition.Condition.{Condition, fold-Condition}
use Rattle.mg_normal.specs.declared.condition.Condition.TheOpen.{Condition-F}
use Rattle.mg_normal.specs.declared.prefix.Prefix.{Prefix, fold-Prefix}
use Rattle.mg_normal.specs.declared.prefix.Prefix.TheOpen.{Prefix-F}

-- a list of conditions as `Conditions`
abbrev pub conditions_of : List ConditionValue → Conditions
conditions_of [] = no_conditions
conditions_of (f ∷ fs) = condition f (conditions_of fs)

-- what one level of a condition stands for, from what the conditions inside it stand for
abbrev pub condition_step : Condition-F ConditionValue → ConditionValue
condition_step (Condition-F.All fs) = all_of (conditions_of fs.items)
condition_step (Condition-F.Any fs) = any_of (conditions_of fs.items)
condition_step (Condition-F.At path f) = within (arc_value path) f.value
condition_step (Condition-F.Ask o sense) = asked (operator_of o) sense

-- the condition that a `Condition` stands for
abbrev pub condition_of : Condition → ConditionValue
condition_of = fold-Condition ConditionValue condition_step

-- the conditions that a list of `Condition` stands for
abbrev pub conditions_view : List Condition → Conditions
conditions_view fs = conditions_of (map condition_of fs)

-- the steps that are given above, in shared memory; none if nothing is above
abbrev pub steps_given : Option (Arc (List (List ℕ)) Global) → List (List ℕ)
steps_given None = []
steps_given (Some above) = arc_value above

-- the steps of a prefix, from the steps of the one above it: those, and then its path's
abbrev pub prefix_step : Prefix-F (List (List ℕ)) → List (List ℕ)
prefix_step p = steps_given p.above ++ arc_value p.path

-- the steps of a prefix
abbrev pub prefix_steps : Prefix → List (List ℕ)
prefix_steps = fold-Prefix (List (List ℕ)) prefix_step

-- the steps from the top of the document to the part below a prefix; none without a prefix
abbrev pub above_steps : Option (Arc Prefix Global) → List (List ℕ)
above_steps None = []
above_steps (Some prefix) = prefix_steps (arc_value prefix)

-- the sense of an atom, by its field `negated`
abbrev pub sense_of : Bool → Sense
sense_of false = Plain
sense_of true = Negated

-- the atom that an `Atom` stands for
abbrev pub atom_view : Atom → AtomValue
atom_view a = record { steps = above_steps a.above; operator = operator_of a.op; sense = sense_of a.negated }

-- the atoms that a list of `Atom` stands for
abbrev pub atoms_view : List Atom → List AtomValue
atoms_view atoms = map atom_view atoms
