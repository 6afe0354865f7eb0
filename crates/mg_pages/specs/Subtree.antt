-- What a page, or a level with all below it, stands for.
use Rattle.std.specs.Prelude.{◌≡◌, ◌<◌, ℕ, ◌+◌, ◌*◌, List, [], ◌∷◌, ◌++◌, get_or, length, take}
use Rattle.std.specs.List.{flat_map}
use denote.Param.Weighed.{most}

-- the elements, in order, and how many levels there are above the pages
pub record Subtree (T : Type 0) : Type 0 where
  pub elements : List T
  pub levels : ℕ

-- x is the last of xs
pub record IsLast {X : Type 0} (x : X) (xs : List X) : Type 0 where
  pub front : List X
  pub is : xs ≡ front ++ x ∷ []

-- the elements of children, one child after another
abbrev pub elements_of : {T : Type 0} → List (Subtree T) → List T
elements_of ts = flat_map (λ t. t.elements) ts

-- how many levels a level has with its children
abbrev pub levels_of : {T : Type 0} → List (Subtree T) → ℕ
levels_of ts = most (λ t. t.levels + 1) ts

-- the element at `place` of the elements of the children is at `left` in the i-th child
pub record IsChildAt {T : Type 0} (i left place : ℕ) (ts : List (Subtree T)) : Type 0 where
  pub within : i < length ts
  pub at : place ≡ length (elements_of (take i ts)) + left
  pub inside : (t : Subtree T) → t ≡ get_or ts i t → left < length t.elements

-- for the proofs that recursions end: a tree is above its children
abbrev pub tree_rank : {T : Type 0} → Subtree T → ℕ
tree_rank t = 2 * t.levels

abbrev pub child_rank : {T : Type 0} → Subtree T → ℕ
child_rank t = 2 * t.levels + 1
