-- The normal form of a selector: its atoms and the rest, which together hold of the same documents as the selector.
use Rattle.std.specs.Prelude.{◌≡◌, Bool, true, ◌&&◌, List, Option, Some, None, refl}
use Rattle.std.specs.Coded.{Coded, code_by, coded×, coded_list, coded_option}
use Rattle.std.specs.List.{list_all}
use Rattle.mg_value.specs.Value.{Value}
use Rattle.mg_selector.specs.Meaning.{holds_in}
use Rattle.mg_selector.specs.Selector.{Selector}
use Rattle.mg_selector.specs.declared.sense.Sense.TheVariants.{Plain}
use Rattle.mg_normal.specs.Atoms.{Atom, atoms_of, atom_holds}
use Rattle.mg_normal.specs.Code.{atom_code, condition_code}
use Rattle.mg_normal.specs.Condition.{Condition, condition_holds}

-- a normal form: its atoms, and what it requires besides them, if anything
pub record NormalForm : Type 0 where
  pub atoms : List Atom
  pub rest : Option Condition

-- how the logic stores a normal form
abbrev pub normal_code : Coded NormalForm
normal_code = code_by (List Atom × Option Condition) (coded× (coded_list atom_code) (coded_option condition_code)) (λ n. (n.atoms, n.rest)) (λ p. record { atoms = p.0; rest = p.1 }) (λ _. refl)

-- each of the atoms holds of the document, which may be missing; true without atoms
abbrev pub all_hold : Option Value → List Atom → Bool
all_hold x atoms = list_all (atom_holds x) atoms

-- the condition holds of the document, which may be missing; true without a condition
abbrev pub rest_holds : Option Condition → Option Value → Bool
rest_holds None x = true
rest_holds (Some f) x = condition_holds f x

-- the normal form holds of the document, which may be missing
abbrev pub normal_holds : NormalForm → Option Value → Bool
normal_holds n x = all_hold x n.atoms && rest_holds n.rest x

-- this is a normal form of the selector: it holds of the same documents, and its atoms are the selector's
pub record IsNormalOf (s : Selector) (n : NormalForm) : Type 0 where
  pub meaning : (x : Option Value) → normal_holds n x ≡ holds_in s Plain x
  pub atoms : n.atoms ≡ atoms_of s
