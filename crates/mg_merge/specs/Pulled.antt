-- Items that are taken from lists, and sources that give them.
use Rattle.std.specs.Prelude.{◌≡◌, ℕ, ◌+◌, ◌<◌, List, [], ◌∷◌, ◌++◌, Bool, true, false, count_by, get_or, length}
use Rattle.std.specs.List.{AllZip}
use Rattle.std.specs.declared.cmp.Ordering.{Ordering}
use Rattle.mg_collate.specs.declared.direction.Direction.{Direction}
use Rattle.mg_collate.specs.Row.{RowValue, directed_order}
use Rattle.mg_collate.specs.Sorted.{sorted}
use Rattle.mg_merge.specs.Merged.{joined}

-- what is left of a list if some of its first items are taken
abbrev pub IsLeftOf : {X : Type 0} → List X → List X → Type 0
IsLeftOf {X} left list = (taken : List X) × (list ≡ taken ++ left)

-- whether a list has an item
abbrev pub has_item : {X : Type 0} → List X → Bool
has_item [] = false
has_item (x ∷ xs) = true

-- these items come first of all lists, and `left` is left of the lists if they are taken
abbrev pub AreTaken : {X : Type 0} → (X → X → Ordering) → List (List X) → List X → List (List X) → Type 0
AreTaken order lists items left = AllZip IsLeftOf left lists × (sorted order (joined lists) ≡ items ++ sorted order (joined left))

-- this many items are pulled from lists to find which come first: these items, and of each list of which anything is then left the next
-- one. If items of several lists tie, it does not matter which of them were taken
abbrev pub ArePulledBy : {X : Type 0} → (X → X → Ordering) → List (List X) → List X → ℕ → Type 0
ArePulledBy {X} order lists items pulled = (left : List (List X)) × AreTaken order lists items left × (pulled ≡ length items + count_by has_item left)

-- the same of rows, in a direction
abbrev pub ArePulled : Direction → List (List RowValue) → List RowValue → ℕ → Type 0
ArePulled direction = ArePulledBy (directed_order direction)

-- one of the sources may give x: x has the property of the items that this source gives
abbrev pub IsGivenBy : {S T : Type 0} → (S → T → Type 0) → List S → T → Type 0
IsGivenBy {S} gives sources x = (k : ℕ) × (k < length sources) × ((d : S) → gives (get_or sources k d) x)

-- each item that a source may still give is one that a source could give at the start
abbrev pub GiveFrom : {S T : Type 0} → (S → T → Type 0) → List S → List S → Type 0
GiveFrom {S} {T} gives start sources = (k : ℕ) → k < length sources → (d : S) (x : T) → gives (get_or sources k d) x → IsGivenBy gives start x
