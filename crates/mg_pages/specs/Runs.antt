-- For the iterators: the elements that are left while an iterator holds a run (elements that follow one another in one page).
use denote.Ref.{Bor}
use Rattle.mg_pages.specs.Order.{above, below}
use Rattle.std.specs.Prelude.{◌≡◌, ◌<◌, ◌+◌, ℕ, length, List, [], ◌∷◌, ◌++◌}
use Rattle.std.specs.List.{flat_map}
use Rattle.std.specs.declared.cmp.Ordering.{Ordering}

-- the run begins the list, and is empty only if the list is empty
pub record IsRun {X : Type 0} (run xs : List X) : Type 0 where
  pub rest : List X
  pub is : xs ≡ run ++ rest
  pub some : length run ≡ 0 → xs ≡ []

-- the run ends the list, and is empty only if the list is empty
pub record IsEndRun {X : Type 0} (run xs : List X) : Type 0 where
  pub rest : List X
  pub is : xs ≡ rest ++ run
  pub some : length run ≡ 0 → xs ≡ []

-- the elements of the page follow one another in the list
pub record IsPiece {X : Type 0} (page xs : List X) : Type 0 where
  pub front : List X
  pub rest : List X
  pub is : xs ≡ front ++ (page ++ rest)

-- the elements of the page follow one another in the list, and the element at `place` in the page is at i in the list
pub record IsPageAt {X : Type 0} (page : List X) (place i : ℕ) (xs : List X) : Type 0 where
  pub front : List X
  pub rest : List X
  pub is : xs ≡ front ++ (page ++ rest)
  pub at : i ≡ length front + place
  pub within : place < length page

-- what is left of a run after its element x, and then the elements of the list above the last of the run
abbrev pub continued_after : {T : Type 0} → (T → T → Ordering) → List T → T → List T → List T
continued_after order xs x [] = above (order x) xs
continued_after order xs x (y ∷ run) = y ∷ continued_after order xs y run

-- a run of a list, and then the elements of the list above the last of the run; empty for an empty run
abbrev pub continued : {T : Type 0} → (T → T → Ordering) → List T → List T → List T
continued order xs [] = []
continued order xs (x ∷ run) = x ∷ continued_after order xs x run

-- the elements of a list below the first of a run, and then the run; empty for an empty run
abbrev pub ended : {T : Type 0} → (T → T → Ordering) → List T → List T → List T
ended order xs [] = []
ended order xs (x ∷ run) = below (order x) xs ++ x ∷ run

-- the elements of slices that are lent, one slice after the other
abbrev pub elements_view : {T : Type 0} → List (Bor (List T)) → List T
elements_view runs = flat_map (λ run. run.now) runs
