-- For the ghost field of `Query`: that a normal form is one of the query's selector has at most one proof.
use Rattle.std.specs.Prelude.{◌≡◌, Option}
use Rattle.std.specs.Coded.{Coded-set, Π_prop, coded_bool, coded_list}
use Rattle.mg_value.specs.Value.{Value}
use Rattle.mg_normal.specs.Atoms.{atoms_of}
use Rattle.mg_normal.specs.Code.{atom_code}
use Rattle.mg_normal.specs.Normal.{IsNormalOf, NormalForm, normal_holds}
use Rattle.mg_selector.specs.Meaning.{holds_in}
use Rattle.mg_selector.specs.Selector.{Selector}
use Rattle.mg_selector.specs.declared.sense.Sense.TheVariants.{Plain}

meaning_prop : (s : Selector) (n : NormalForm) → IsProp ((x : Option Value) → normal_holds n x ≡ holds_in s Plain x)
meaning_prop s n = Π_prop λ x. Coded-set coded_bool (normal_holds n x) (holds_in s Plain x)

atoms_prop : (s : Selector) (n : NormalForm) → IsProp (n.atoms ≡ atoms_of s)
atoms_prop s n = Coded-set (coded_list atom_code) n.atoms (atoms_of s)

-- all proofs of `IsNormalOf` are equal
pub IsNormalOf-prop : (s : Selector) (n : NormalForm) → IsProp (IsNormalOf s n)
IsNormalOf-prop s n = λ x y i. record { meaning = meaning_prop s n x.meaning y.meaning i; atoms = atoms_prop s n x.atoms y.atoms i }
