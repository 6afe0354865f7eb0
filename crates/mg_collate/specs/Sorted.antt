-- Sorted lists, and rows sorted in a direction as CouchDB lists the rows of a view.
use Rattle.std.specs.Prelude.{List, [], ◌∷◌, if◌then◌else◌}
use Rattle.std.specs.declared.cmp.Ordering.{Ordering}
use Rattle.std.specs.Ordering.{is_gt}
use Rattle.std.specs.List.Sorted.{IsSorted}
use Rattle.mg_collate.specs.declared.direction.Direction.{Direction}
use Rattle.mg_collate.specs.Row.{RowValue, directed_order}

-- a list that is in order, with x put before the first element that is not below x, or at the end
abbrev pub sorted_with : {X : Type 0} → (X → X → Ordering) → X → List X → List X
sorted_with order x [] = x ∷ []
sorted_with order x (y ∷ ys) = if is_gt (order x y) then y ∷ sorted_with order x ys else x ∷ y ∷ ys

-- the list put in order, with each element as often as before; elements that tie keep their order
abbrev pub sorted : {X : Type 0} → (X → X → Ordering) → List X → List X
sorted order [] = []
sorted order (x ∷ xs) = sorted_with order x (sorted order xs)

-- rows sorted in a direction
abbrev pub sorted_rows : Direction → List RowValue → List RowValue
sorted_rows direction = sorted (directed_order direction)

-- the rows stand in the order in which the direction lists them
abbrev pub IsInOrder : Direction → List RowValue → Type 0
IsInOrder direction = IsSorted (directed_order direction)
