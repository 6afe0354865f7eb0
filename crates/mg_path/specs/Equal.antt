-- Equality of paths, which is equality of their steps, and the laws that Rust's `PartialEq` and `Eq` require.
use Rattle.std.specs.Prelude.{ℕ, Bool, List, nat_eq}
use Rattle.std.specs.Cmp.{IsEquivalence, IsPartialEquivalence, partial_equiv_from_equiv}
use Rattle.std.specs.Cmp.Lexicographic.{pointwise}
use Rattle.std.proofs.lemmas.Cmp.{lists_equiv, nat_list_eq_equiv}

-- whether two paths have equal steps, byte by byte
abbrev pub path_eq : List (List ℕ) → List (List ℕ) → Bool
path_eq = pointwise (pointwise nat_eq)

-- `==` of paths is an equivalence
pub path_eq_equivalence : IsEquivalence path_eq
path_eq_equivalence = lists_equiv nat_list_eq_equiv

-- the laws of `==`
pub path_eq_laws : IsPartialEquivalence path_eq
path_eq_laws = partial_equiv_from_equiv path_eq_equivalence
