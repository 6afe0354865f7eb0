-- The heads of lists that are merged: the next item of each list that has anything left. The rest of a list was not pulled yet.
use Rattle.std.specs.Prelude.{◌≡◌, ℕ, ◌<◌, ◌==◌, List, [], ◌∷◌, Option, None, Some, All, cond, count_by, get_or, length, map}
use Rattle.std.specs.BinaryHeap.{IsHeap}
use Rattle.mg_collate.specs.declared.direction.Direction.{Direction}
use Rattle.mg_collate.specs.Row.{RowValue}
use Rattle.mg_merge.specs.declared.head.Head.{Head}
use Rattle.mg_merge.specs.Merged.{IsInOrderBy, joined, order_by}
use Rattle.mg_merge.specs.Pulled.{AreTaken, has_item}
use Rattle.mg_merge.specs.Turns.{head_order}

-- the list is this head, and then what was not pulled of it
abbrev pub IsHeadOf : {X K : Type 0} → (X → K) → Direction → List (List K) → List (List K) → Head X → Type 0
IsHeadOf key direction rests lists head =
    (head.direction ≡ direction) × (head.list < length lists) × (get_or lists head.list [] ≡ key head.item ∷ get_or rests head.list [])

-- the heads, with that of a list if an item was pulled from it
abbrev pub with_head : {X : Type 0} → Option X → ℕ → Direction → List (Head X) → List (Head X)
with_head None list direction heads = heads
with_head (Some x) list direction heads = record { item = x; list = list; direction = direction } ∷ heads

-- how many heads a list has: one if it has an item
abbrev pub heads_wanted : {K : Type 0} → List K → ℕ
heads_wanted list = cond (has_item list) 1 0

-- the heads are those of the lists, one of each list that has an item
pub record AreHeads {X K : Type 0} (key : X → K) (direction : Direction) (rests lists : List (List K)) (heads : List (Head X)) : Type 0 where
  pub each : All (IsHeadOf key direction rests lists) heads
  pub one : (k : ℕ) → k < length lists → count_by (λ head. head.list == k) heads ≡ heads_wanted (get_or lists k [])
  pub number : length heads ≡ count_by has_item lists

-- a merge is under way, and `lists` remain: each is in order, its head is in the heap, and its rest was not pulled yet
pub record IsUnderWay {X K : Type 0} (key : X → K) (row : X → RowValue) (key_row : K → RowValue) (direction : Direction) (lists rests : List (List K)) (heads : List (Head X)) : Type 0 where
  pub size : length rests ≡ length lists
  pub order : All (IsInOrderBy key_row direction) lists
  pub fronts : AreHeads key direction rests lists heads
  pub heap : IsHeap (head_order row) heads

-- however a merge is under way before, it is after these items are taken
abbrev pub GoesOn : {X K : Type 0} → (X → K) → (X → RowValue) → (K → RowValue) → Direction → List (List K) → List (Head X) → List X → List (List K) → List (Head X) → Type 0
GoesOn {X} {K} key row key_row direction rests heads items rests_after heads_after =
    (lists : List (List K)) → IsUnderWay key row key_row direction lists rests heads
    → (left : List (List K)) × IsUnderWay key row key_row direction left rests_after heads_after × AreTaken (order_by key_row direction) lists (map key items) left

-- however a merge is under way, nothing remains of its lists
abbrev pub IsAtEnd : {X K : Type 0} → (X → K) → (X → RowValue) → (K → RowValue) → Direction → List (List K) → List (Head X) → Type 0
IsAtEnd {X} {K} key row key_row direction rests heads = (lists : List (List K)) → IsUnderWay key row key_row direction lists rests heads → joined lists ≡ []
