-- Why a search may read only the key range of a selector's atoms: the selector holds only of documents of which all its atoms hold.
use Rattle.std.specs.Prelude.{◌≡◌, true, Option}
use Rattle.std.specs.List.{All}
use Rattle.mg_value.specs.Value.{Value}
use Rattle.mg_selector.specs.Meaning.{holds_in}
use Rattle.mg_selector.specs.Selector.{Selector}
use Rattle.mg_selector.specs.declared.sense.Sense.TheVariants.{Plain}
use Rattle.mg_normal.specs.Atoms.{atoms_of, atom_holds}

-- if a selector holds, each of its atoms does
abbrev pub AtomsAreNecessary : Type 0
AtomsAreNecessary = (s : Selector) (x : Option Value) → holds_in s Plain x ≡ true → All (λ a. atom_holds x a ≡ true) (atoms_of s)
