-- A test decides whether paths are the same.
use Rattle.std.proofs.Common.{◌≡◌, ℕ, List, Decides, refl}
use Rattle.std.specs.Cmp.Lexicographic.{pointwise}
use Rattle.std.proofs.lemmas.Slice.Eq.{slice_eq-Decides, bytes_eq-Decides}
use Rattle.mg_path.specs.Equal.{path_eq}

-- `==` of paths decides whether they are the same
pub path_eq-Decides : (a b : List (List ℕ)) → Decides (path_eq a b) (a ≡ b)
path_eq-Decides a b = slice_eq-Decides bytes_eq-Decides a b (path_eq a b) refl

-- `==` of lists of paths decides whether they are the same
pub paths_eq-Decides : (a b : List (List (List ℕ))) → Decides (pointwise path_eq a b) (a ≡ b)
paths_eq-Decides a b = slice_eq-Decides path_eq-Decides a b (pointwise path_eq a b) refl
