-- If a selector holds, its atoms do.
use Rattle.std.proofs.Common.{◌≡◌, ℕ, Bool, true, false, ◌||◌, List, [], ◌∷◌, ◌++◌, Option, Some, None, option_and_then, refl, ap, ◌∙◌}
use Rattle.std.proofs.lemmas.Bool.{and_parts}
use Rattle.std.proofs.lemmas.List.Elements.{All-nil, All-cons, All-append}
use Rattle.std.specs.List.{All}
use Rattle.mg_value.specs.Value.{Value}
use Rattle.mg_path.specs.Part.{part_of, part_of_step}
use Rattle.mg_selector.specs.Meaning.{holds_in, every_arm, flip}
use Rattle.mg_selector.specs.Selector.{Selector, members, every, some, none, opposite, at, asks, Arms, no_arms, arm}
use Rattle.mg_selector.specs.declared.sense.Sense.{Sense}
use Rattle.mg_selector.specs.declared.sense.Sense.TheVariants.{Plain, Negated}
use Rattle.mg_normal.specs.Atoms.{Atom, atom_holds, atoms_in, arms_atoms}

-- the part at steps and then at more is the part at all of them
pub part_of-append : (steps more : List (List ℕ)) (x : Option Value) → option_and_then (part_of (steps ++ more)) x ≡ option_and_then (part_of more) (option_and_then (part_of steps) x)
part_of-append steps more None = refl
part_of-append [] more (Some v) = refl
part_of-append (step ∷ steps) more (Some v) = part_of-append steps more (part_of_step step v)

-- if some arm of a single arm holds, that arm holds
only_one : (b : Bool) → (b || false) ≡ true → b ≡ true
only_one true h = refl
only_one false h = h

-- each atom holds of the document
abbrev Hold : Option Value → List Atom → Type 0
Hold x atoms = All (λ a. atom_holds x a ≡ true) atoms

none_hold : (x : Option Value) → Hold x []
none_hold x = All-nil (λ a. atom_holds x a ≡ true)

-- the atoms of a selector that is asked of the part at the steps
mutual
  necessary : (s : Selector) (sense : Sense) (steps : List (List ℕ)) (x : Option Value) → holds_in s sense (option_and_then (part_of steps) x) ≡ true → Hold x (atoms_in s sense steps)
  necessary (members ss) Plain steps x h = each ss Plain steps x h
  necessary (members no_arms) Negated steps x h = none_hold x
  necessary (members (arm s no_arms)) Negated steps x h = necessary s Negated steps x (only_one (holds_in s Negated (option_and_then (part_of steps) x)) h)
  necessary (members (arm s (arm t ss))) Negated steps x h = none_hold x
  necessary (every ss) Plain steps x h = each ss Plain steps x h
  necessary (every ss) Negated steps x h = none_hold x
  necessary (some ss) Plain steps x h = none_hold x
  necessary (some ss) Negated steps x h = each ss Negated steps x h
  necessary (none ss) Plain steps x h = each ss Negated steps x h
  necessary (none ss) Negated steps x h = none_hold x
  necessary (opposite s) sense steps x h = necessary s (flip sense) steps x h
  necessary (at more s) sense steps x h = necessary s sense (steps ++ more) x (ap (holds_in s sense) (part_of-append steps more x) ∙ h)
  necessary (asks o) sense steps x h = All-cons (λ a. atom_holds x a ≡ true) (record { steps = steps; operator = o; sense = sense }) [] h (none_hold x)

  each : (ss : Arms) (sense : Sense) (steps : List (List ℕ)) (x : Option Value) → every_arm ss sense (option_and_then (part_of steps) x) ≡ true → Hold x (arms_atoms ss sense steps)
  each no_arms sense steps x h = none_hold x
  each (arm s ss) sense steps x h =
      let both = and_parts (holds_in s sense (option_and_then (part_of steps) x)) (every_arm ss sense (option_and_then (part_of steps) x)) h in
      All-append (λ a. atom_holds x a ≡ true) (atoms_in s sense steps) (arms_atoms ss sense steps) (necessary s sense steps x both.0) (each ss sense steps x both.1)

pub atoms_are_necessary : (s : Selector) (x : Option Value) → holds_in s Plain x ≡ true → Hold x (atoms_in s Plain [])
atoms_are_necessary s None h = necessary s Plain [] None h
atoms_are_necessary s (Some v) h = necessary s Plain [] (Some v) h
