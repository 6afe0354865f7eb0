-- The merge of lists of rows, as CouchDB's coordinator merges what its shards list.
use Rattle.std.specs.Prelude.{ℕ, List, Vec, map, take}
use Rattle.std.specs.Borrow.{Bor}
use Rattle.std.specs.List.{flat_map}
use Rattle.std.specs.List.Sorted.{IsSorted}
use Rattle.std.specs.declared.alloc.Global.{Global}
use Rattle.std.specs.declared.cmp.Ordering.{Ordering}
use Rattle.mg_collate.specs.declared.direction.Direction.{Direction}
use Rattle.mg_collate.specs.declared.row.Row.{Row}
use Rattle.mg_collate.specs.Row.{RowValue, directed_order, rows_view}
use Rattle.mg_collate.specs.Sorted.{sorted, sorted_rows}

-- the contents of each list
abbrev pub contents_of : {X : Type 0} → List (Vec X Global) → List (List X)
contents_of lists = map (λ list. list.items) lists

-- the borrowed items
abbrev pub lent_view : {X : Type 0} → List (Bor X) → List X
lent_view lent = map (λ x. x.now) lent

-- the rows that each list stands for
abbrev pub lists_view : List (Vec Row Global) → List (List RowValue)
lists_view lists = map (λ list. rows_view list.items) lists

-- the contents of all lists, one list after the other
abbrev pub joined : {X : Type 0} → List (List X) → List X
joined lists = flat_map (λ list. list) lists

-- the first `count` rows of all lists, in a direction's order
abbrev pub merged : Direction → ℕ → List (List RowValue) → List RowValue
merged direction count lists = take count (sorted_rows direction (joined lists))

-- ---- the merge of items that have rows: `row` gives the row of each item

-- the order of items in a direction: that of their rows
abbrev pub order_by : {X : Type 0} → (X → RowValue) → Direction → X → X → Ordering
order_by row direction a b = directed_order direction (row a) (row b)

-- the items are in the direction's order of their rows
abbrev pub IsInOrderBy : {X : Type 0} → (X → RowValue) → Direction → List X → Type 0
IsInOrderBy row direction = IsSorted (order_by row direction)

-- the first `count` items of all lists, in the order of their rows; of items with equal rows those of an earlier list
-- come first, and those of one list in the order of the list
abbrev pub merged_by : {X : Type 0} → (X → RowValue) → Direction → ℕ → List (List X) → List X
merged_by row direction count lists = take count (sorted (order_by row direction) (joined lists))
