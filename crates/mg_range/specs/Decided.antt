-- Which atoms a range decides: those that give a bound on a bounded column. All of them hold of a document that has
-- a key if and only if the key is in the range. The rule is this project's own.
use Rattle.std.specs.Prelude.{List, [], ◌∷◌, Bool, false, not, ◌&&◌, ◌||◌, is_some}
use Rattle.std.specs.List.{filter, list_all, list_any}
use Rattle.mg_normal.specs.Atoms.{Atom}
use Rattle.mg_index.specs.Bound.{bound_on, is_fixed}
use Rattle.mg_index.specs.Definition.{Steps}

-- whether the atom gives a bound on a bounded column: one of the leading columns whose value the atoms fix, or the next column
abbrev pub is_decided : List Atom → List Steps → Atom → Bool
is_decided atoms [] a = false
is_decided atoms (c ∷ cs) a = is_some (bound_on c a) || (is_fixed atoms c && is_decided atoms cs a)

-- the atoms that the range does not decide
abbrev pub undecided : List Atom → List Steps → List Atom
undecided atoms columns = filter (λ a. not (is_decided atoms columns a)) atoms

-- the range that the atoms give an index of these columns decides each of the atoms
abbrev pub decides_of : List Atom → List Steps → Bool
decides_of atoms columns = list_all (is_decided atoms columns) atoms

-- for private clauses: the atom gives a bound on one of the columns
abbrev pub bounds_one : List Steps → Atom → Bool
bounds_one columns a = list_any (λ c. is_some (bound_on c a)) columns
