-- Items that have rows, and those rows.
use Rattle.std.proofs.Common.{◌≡◌, ℕ, ◌+◌, List, [], ◌∷◌, ◌++◌, get_or, map, take, All, Bool, true, false, if◌then◌else◌, is_gt, is_lt, Vec, Global, refl, sym, ap, ap₂, ◌∙◌, subst, arith}
use Rattle.std.specs.Cmp.{IsTotalOrder}
use Rattle.std.proofs.lemmas.Cmp.{on_total}
use Rattle.std.proofs.lemmas.List.{get_or-map, length-map, map-append, take-map}
use Rattle.std.proofs.lemmas.List.Elements.{All-map}
use Rattle.mg_collate.specs.declared.direction.Direction.{Direction}
use Rattle.mg_collate.specs.declared.row.Row.{Row}
use Rattle.mg_collate.specs.Row.{RowValue, row_view, rows_view, directed_order}
use Rattle.mg_collate.specs.Sorted.{IsInOrder, sorted_with, sorted, sorted_rows}
use Rattle.mg_collate.proofs.Directed.{directed_total}
use Rattle.mg_merge.specs.Merged.{IsInOrderBy, contents_of, joined, lists_view, merged, merged_by, order_by}

-- the order of items by their rows is total
pub by_total : {X : Type 0} (row : X → RowValue) (direction : Direction) → IsTotalOrder (order_by row direction)
by_total row direction = on_total row (directed_total direction)

-- ---- the rows of what was sorted are sorted

either_map : {X Y : Type 0} (f : X → Y) (b : Bool) (xs ys : List X) → map f (if b then xs else ys) ≡ (if b then map f xs else map f ys)
either_map f true xs ys = refl
either_map f false xs ys = refl

map_inserted : {X : Type 0} (row : X → RowValue) (direction : Direction) (x : X) (ys : List X) → map row (sorted_with (order_by row direction) x ys) ≡ sorted_with (directed_order direction) (row x) (map row ys)
map_inserted row direction x [] = refl
map_inserted row direction x (y ∷ ys) =
    let above = is_gt (order_by row direction x y) in
    either_map row above (y ∷ sorted_with (order_by row direction) x ys) (x ∷ y ∷ ys) ∙ ap (λ zs. if above then row y ∷ zs else row x ∷ row y ∷ map row ys) (map_inserted row direction x ys)

pub map_sorted : {X : Type 0} (row : X → RowValue) (direction : Direction) (xs : List X) → map row (sorted (order_by row direction) xs) ≡ sorted_rows direction (map row xs)
map_sorted row direction [] = refl
map_sorted row direction (x ∷ xs) = map_inserted row direction x (sorted (order_by row direction) xs) ∙ ap (sorted_with (directed_order direction) (row x)) (map_sorted row direction xs)

map_joined : {X : Type 0} (row : X → RowValue) (lists : List (List X)) → map row (joined lists) ≡ joined (map (map row) lists)
map_joined row [] = refl
map_joined row (xs ∷ lists) = map-append row xs (joined lists) ∙ ap (λ ys. map row xs ++ ys) (map_joined row lists)

-- the rows of a merge are the merge of the rows
pub rows_of_merged : {X : Type 0} (row : X → RowValue) (direction : Direction) (count : ℕ) (lists : List (List X)) → map row (merged_by row direction count lists) ≡ merged direction count (map (map row) lists)
rows_of_merged row direction count lists =
    sym (take-map row count (sorted (order_by row direction) (joined lists))) ∙ ap (take count) (map_sorted row direction (joined lists) ∙ ap (sorted_rows direction) (map_joined row lists))

-- ---- lists of items are in order if the lists of their rows are

pub by_rows : {X : Type 0} (row : X → RowValue) (direction : Direction) (xs : List X) → IsInOrder direction (map row xs) → IsInOrderBy row direction xs
by_rows row direction xs h = λ k d lo hi.
    let size = length-map xs row in
    let next = get_or-map row xs (k + 1) d (row d) (omega arith) in
    let here = get_or-map row xs k d (row d) (omega arith) in
    sym (ap₂ (λ a b. is_lt (directed_order direction a b)) next here) ∙ h k (row d) lo (omega (arith, size))

pub rows_by : {X : Type 0} (row : X → RowValue) (direction : Direction) (xs : List X) → IsInOrderBy row direction xs → IsInOrder direction (map row xs)
rows_by row direction [] h = λ k d lo hi. absurd (omega arith)
rows_by row direction (x ∷ xs) h = λ k d lo hi.
    let size = length-map (x ∷ xs) row in
    let next = get_or-map row (x ∷ xs) (k + 1) x d (omega (arith, size)) in
    let here = get_or-map row (x ∷ xs) k x d (omega (arith, size)) in
    ap₂ (λ a b. is_lt (directed_order direction a b)) next here ∙ h k x lo (omega (arith, size))

pub views : (lists : List (Vec Row Global)) → map (map row_view) (contents_of lists) ≡ lists_view lists
views [] = refl
views (list ∷ lists) = ap (λ ls. rows_view list.items ∷ ls) (views lists)

pub all_by_rows : (direction : Direction) (lists : List (Vec Row Global)) → All (IsInOrder direction) (lists_view lists) → All (IsInOrderBy row_view direction) (contents_of lists)
all_by_rows direction lists h =
    let size = length-map lists (λ (l : Vec Row Global). rows_view l.items) in
    All-map (IsInOrderBy row_view direction) (λ (l : Vec Row Global). l.items) lists
    (λ k list l. by_rows row_view direction (get_or lists k list).items (subst (IsInOrder direction) (get_or-map (λ (v : Vec Row Global). rows_view v.items) lists k list [] l) (h k [] (omega (arith, size, l)))))

pub all_rows_by : (direction : Direction) (lists : List (Vec Row Global)) → All (IsInOrderBy row_view direction) (contents_of lists) → All (IsInOrder direction) (lists_view lists)
all_rows_by direction lists h =
    let size = length-map lists (λ (l : Vec Row Global). l.items) in
    All-map (IsInOrder direction) (λ (l : Vec Row Global). rows_view l.items) lists
    (λ k list l. rows_by row_view direction (get_or lists k list).items (subst (IsInOrderBy row_view direction) (get_or-map (λ (v : Vec Row Global). v.items) lists k list [] l) (h k [] (omega (arith, size, l)))))
