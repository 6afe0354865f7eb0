-- The atoms of a selector: operators that have to hold for it to hold, each on the part at a path from the top of the document. Key
-- ranges come from atoms alone.
-- Where one of several arms is enough, no single arm has to hold. Where one arm is enough and there is only one, that arm has to hold; but,
-- by the project's own choice, its atoms are taken only if the arms are a negated object's: a plain `$or`, a negated `$and` and a negated
-- `$nor` never have atoms. `$elemMatch` and `$allMatch` are atoms as a whole, since the operators inside them are evaluated on elements.
use Rattle.std.specs.Prelude.{ℕ, Bool, List, [], ◌∷◌, ◌++◌, Option, option_and_then}
use Rattle.mg_value.specs.Value.{Value}
use Rattle.mg_path.specs.Part.{part_of}
use Rattle.mg_selector.specs.Meaning.{flip, operator_holds}
use Rattle.mg_selector.specs.Selector.{Selector, members, every, some, none, opposite, at, asks, Arms, no_arms, arm, Operator}
use Rattle.mg_selector.specs.declared.sense.Sense.{Sense}
use Rattle.mg_selector.specs.declared.sense.Sense.TheVariants.{Plain, Negated}

-- an operator, in a sense, on the part at the steps
pub record Atom : Type 0 where
  pub steps : List (List ℕ)
  pub operator : Operator
  pub sense : Sense

-- the operator holds, in the sense, of the document's part at the steps; the document or the part may be missing
abbrev pub atom_holds : Option Value → Atom → Bool
atom_holds x a = operator_holds a.operator a.sense (option_and_then (part_of a.steps) x)

abbrev mutual
  -- the atoms of a selector, in a sense, on the part at the steps
  pub atoms_in : Selector → Sense → List (List ℕ) → List Atom
  -- an object, in the plain sense: the atoms of all its members; in the negated sense: those of its only member, or none if it has no
  -- member or several
  atoms_in (members ss) Plain steps = arms_atoms ss Plain steps
  atoms_in (members ss) Negated steps = only_atoms ss Negated steps
  -- arms: the atoms of all arms if all have to hold, and none if one arm is enough
  atoms_in (every ss) Plain steps = arms_atoms ss Plain steps
  atoms_in (every ss) Negated steps = []
  atoms_in (some ss) Plain steps = []
  atoms_in (some ss) Negated steps = arms_atoms ss Negated steps
  atoms_in (none ss) Plain steps = arms_atoms ss Negated steps
  atoms_in (none ss) Negated steps = []
  -- `$not` and a path: the atoms of the selector inside
  atoms_in (opposite s) sense steps = atoms_in s (flip sense) steps
  atoms_in (at more s) sense steps = atoms_in s sense (steps ++ more)
  -- the operator itself
  atoms_in (asks o) sense steps = record { steps = steps; operator = o; sense = sense } ∷ []

  -- the atoms of all arms, in order
  pub arms_atoms : Arms → Sense → List (List ℕ) → List Atom
  arms_atoms no_arms sense steps = []
  arms_atoms (arm s ss) sense steps = atoms_in s sense steps ++ arms_atoms ss sense steps

  -- the atoms of the only arm; none unless there is exactly one
  pub only_atoms : Arms → Sense → List (List ℕ) → List Atom
  only_atoms (arm s no_arms) sense steps = atoms_in s sense steps
  only_atoms ss sense steps = []

-- the atoms of a selector
abbrev pub atoms_of : Selector → List Atom
atoms_of s = atoms_in s Plain []
