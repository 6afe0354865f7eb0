-- Reading in a direction: a list as it is read, and what comes after a place.
use Rattle.std.specs.Prelude.{◌≡◌, ℕ, List, ◌++◌, length, reverse}
use Rattle.std.specs.declared.cmp.Ordering.{Ordering}
use Rattle.mg_collate.specs.declared.direction.Direction.{Direction}
use Rattle.mg_collate.specs.declared.direction.Direction.TheVariants.{Asc, Desc}
use Rattle.mg_pages.specs.Order.{above, below}
use Rattle.mg_pages.specs.Runs.{continued, ended}

-- a list as it is read in a direction
abbrev pub in_direction : {T : Type 0} → Direction → List T → List T
in_direction Asc xs = xs
in_direction Desc xs = reverse xs

-- what comes after a place in a direction, in the order of the list: ascending, what is above the place; descending, what is below it.
-- The place is given by its order `against` each element; elements that tie with it are left out
abbrev pub past : {T : Type 0} → Direction → (T → Ordering) → List T → List T
past Asc against xs = above against xs
past Desc against xs = below against xs

-- the same as it is read in the direction: descending, from the last to the first
abbrev pub beyond : {T : Type 0} → Direction → (T → Ordering) → List T → List T
beyond Asc against xs = above against xs
beyond Desc against xs = reverse (below against xs)

-- ---- for private clauses

-- the elements that are left while a cursor holds a run
abbrev pub left_of : {T : Type 0} → (T → T → Ordering) → Direction → List T → List T → List T
left_of order Asc xs run = continued order xs run
left_of order Desc xs run = reverse (ended order xs run)

-- `left` elements lie between two ends: what is read upwards begins with them, and what is read downwards begins with their reverse
pub record AreBetween {T : Type 0} (up down : List T) (left : ℕ) : Type 0 where
  pub between : List T
  pub rest_up : List T
  pub rest_down : List T
  pub upwards : up ≡ between ++ rest_up
  pub downwards : down ≡ reverse between ++ rest_down
  pub number : left ≡ length between
