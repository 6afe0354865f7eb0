-- The place where a search begins divides rows, and documents: in the search's direction, those that it does not reach come before those
-- that it reaches. The proofs of both laws (`begin_probes_rows`, `begin_probes_ids`) are in specs/, since code can cite only the specs of
-- its own crate.
use Rattle.std.proofs.Common.{◌≡◌, ℕ, ◌≤◌, Bool, true, false, not, List, Option, Some, None, option_map, Ordering, Less, Equal, Greater, is_gt, if◌then◌else◌, refl, ap, ap₂, sym, ◌∙◌, arith}
use Rattle.std.proofs.lemmas.Bool.{and_from, and_parts}
use Rattle.std.proofs.lemmas.Cmp.{upto}
use Rattle.std.specs.Cmp.{IsTotalOrder}
use Rattle.std.specs.Cmp.Lexicographic.{slice_cmp}
use Rattle.std.specs.Ordering.{is_le, nat_cmp, ordering_reverse, ordering_then}
use Rattle.mg_collate.specs.Direction.{directed}
use Rattle.mg_collate.specs.Order.{value_order}
use Rattle.mg_collate.specs.Row.{RowValue, directed_order, row_value_order, row_value_order_total}
use Rattle.mg_collate.specs.declared.direction.Direction.{Direction}
use Rattle.mg_collate.specs.declared.direction.Direction.TheVariants.{Asc, Desc}
use Rattle.mg_collate.proofs.Directed.{directed_total}
use Rattle.mg_collate.proofs.Flat.{items_order-item, text_order, then_equal}
use Rattle.mg_pages.specs.Identified.{id_order}
use Rattle.mg_pages.specs.Order.{IsProbe}
use Rattle.mg_range.specs.RangeSide.{is_early, side_of, side_rank}
use Rattle.mg_range.specs.Range.{Range}
use Rattle.mg_range.specs.declared.side.RangeSide.{RangeSide}
use Rattle.mg_range.specs.declared.side.RangeSide.TheVariants.{Before, Within, Past}
use Rattle.mg_range.proofs.Together.{rows_together}
use Rattle.mg_scan.specs.Search.{after_of}
use Rattle.mg_scan.specs.Way.{begin_at}
use Rattle.mg_scan.specs.Walked.{begin_order, id_row, is_beyond, reaches}
use Rattle.mg_scan.specs.declared.search.Search.{Search}
use Rattle.mg_value.specs.Value.{Items, no_items, item, item_list, text}
use Rattle.mg_value.specs.View.{items_of}

-- x does not come after y in a direction
abbrev pub NotAfter : Direction → RowValue → RowValue → Type 0
NotAfter direction x y = is_gt (directed_order direction x y) ≡ false

-- ---- sides

items-list : (vs : Items) → items_of (item_list vs) ≡ vs
items-list no_items = refl
items-list (item v vs) = ap (item v) (items-list vs)

same_row : (r : RowValue) → ◌≡◌ {A = RowValue} (items_of (item_list r.0), r.1) r
same_row r = ap (λ vs. (vs, r.1)) (items-list r.0)

not_gt-le : (o : Ordering) → is_gt o ≡ false → is_le o ≡ true
not_gt-le Less e = refl
not_gt-le Equal e = refl
not_gt-le Greater e = absurd cc

-- the side of the range on which the key of a row is
abbrev pub row_side : Range → RowValue → RangeSide
row_side range r = side_of range (item_list r.0)

-- if rows are in order, their sides of the range are in order
sides_rise : (range : Range) (x y : RowValue) → is_gt (row_value_order x y) ≡ false → side_rank (row_side range x) ≤ side_rank (row_side range y)
sides_rise range x y e =
    rows_together range (item_list x.0) (item_list y.0) x.1 y.1 (ap₂ (λ a b. is_le (row_value_order a b)) (same_row x) (same_row y) ∙ not_gt-le (row_value_order x y) e)

-- the second side does not come before the first in a direction
abbrev pub Follows : Direction → RangeSide → RangeSide → Type 0
Follows Asc p q = side_rank p ≤ side_rank q
Follows Desc p q = side_rank q ≤ side_rank p

-- the side of a row does not come before that of an earlier row in a direction
pub follows : (direction : Direction) (range : Range) (x y : RowValue) → NotAfter direction x y → Follows direction (row_side range x) (row_side range y)
follows Asc range x y e = sides_rise range x y e
follows Desc range x y e = sides_rise range y x (ap is_gt (row_value_order_total.antisymm y x) ∙ e)

early_side : (direction : Direction) (p q : RangeSide) → Follows direction p q → is_early direction q ≡ true → is_early direction p ≡ true
early_side Asc Before q h e = refl
early_side Asc Within Before h e = absurd (omega (arith, h))
early_side Asc Past Before h e = absurd (omega (arith, h))
early_side Asc Within Within h e = absurd cc
early_side Asc Within Past h e = absurd cc
early_side Asc Past Within h e = absurd cc
early_side Asc Past Past h e = absurd cc
early_side Desc Past q h e = refl
early_side Desc Before Past h e = absurd (omega (arith, h))
early_side Desc Within Past h e = absurd (omega (arith, h))
early_side Desc Before Before h e = absurd cc
early_side Desc Before Within h e = absurd cc
early_side Desc Within Before h e = absurd cc
early_side Desc Within Within h e = absurd cc

-- ---- what a search reaches

beyond_at : (R : RowValue → RowValue → Ordering) → IsTotalOrder R → (x y p : RowValue) (b : Bool) → is_gt (R y p) ≡ b → is_gt (R x y) ≡ false → is_gt (R x p) ≡ true → b ≡ true
beyond_at R o x y p true is h e = refl
beyond_at R o x y p false is h e = sym (upto o x y p h is) ∙ e

-- if x is past the row after which a search begins, a y that is not before x is past it too; without such a row, every row is past it
pub beyond_rises : (direction : Direction) (after : Option RowValue) (x y : RowValue) → NotAfter direction x y
    → is_beyond direction (option_map (row_value_order x) after) ≡ true → is_beyond direction (option_map (row_value_order y) after) ≡ true
beyond_rises direction None x y h e = refl
beyond_rises direction (Some p) x y h e = beyond_at (directed_order direction) (directed_total direction) x y p (is_gt (directed_order direction y p)) refl h e

not_up : (a b : Bool) → (b ≡ true → a ≡ true) → not a ≡ true → not b ≡ true
not_up a false f e = refl
not_up true true f e = e
not_up false true f e = absurd (let wrong = f refl in cc)

-- the row is at or after the place where a search begins
abbrev pub reached : Direction → Range → Option RowValue → RowValue → Bool
reached direction range after r = reaches direction (row_side range r) (option_map (row_value_order r) after)

-- a row that comes after one that is reached is reached
reached_rises : (direction : Direction) (range : Range) (after : Option RowValue) (x y : RowValue) → NotAfter direction x y → reached direction range after x ≡ true → reached direction range after y ≡ true
reached_rises direction range after x y h e =
    let place = row_side range in
    let was = and_parts (not (is_early direction (place x))) (is_beyond direction (option_map (row_value_order x) after)) e in
    and_from (not (is_early direction (place y))) (is_beyond direction (option_map (row_value_order y) after))
    (not_up (is_early direction (place x)) (is_early direction (place y)) (early_side direction (place x) (place y) (follows direction range x y h)) was.0)
    (beyond_rises direction after x y h was.1)

up_step : (b c : Bool) → (b ≡ true → c ≡ true) → is_gt (directed Asc (if b then Less else Greater)) ≡ false → directed Asc (if c then Less else Greater) ≡ Less
up_step true c f e = ap (λ d. if d then Less else Greater) (f refl)
up_step false c f e = absurd cc

down_step : (b c : Bool) → (c ≡ true → b ≡ true) → is_gt (directed Desc (if b then Less else Greater)) ≡ false → directed Desc (if c then Less else Greater) ≡ Less
down_step true c f e = absurd cc
down_step false true f e = absurd (let wrong = f refl in cc)
down_step false false f e = refl

begin_probes : (direction : Direction) (range : Range) (after : Option RowValue) → IsProbe row_value_order (λ r. begin_order direction (row_side range r) (option_map (row_value_order r) after))
begin_probes Asc range after = λ x y l n. up_step (reached Asc range after x) (reached Asc range after y) (reached_rises Asc range after x y (ap is_gt l)) n
begin_probes Desc range after =
    λ x y l n. down_step (reached Desc range after x) (reached Desc range after y) (reached_rises Desc range after y x (ap (λ o. is_gt (ordering_reverse o)) (row_value_order_total.antisymm y x ∙ ap ordering_reverse l))) n

-- the place where a search begins divides rows that are in order
pub begin_probes_rows : (s : Search) → IsProbe row_value_order (begin_at s)
begin_probes_rows s = begin_probes s.direction s.range.now (after_of s)

twice : (o : Ordering) → ordering_then o o ≡ o
twice Less = refl
twice Equal = refl
twice Greater = refl

-- the rows of ids in the index of all documents are in the order of the ids
pub id_rows : (a b : List ℕ) → row_value_order (id_row a) (id_row b) ≡ slice_cmp nat_cmp a b
id_rows a b =
    ap (λ o. ordering_then o (slice_cmp nat_cmp a b)) (items_order-item (text a) (text b) no_items no_items ∙ then_equal (value_order (text a) (text b)) ∙ text_order a b)
    ∙ twice (slice_cmp nat_cmp a b)

-- the place where a search begins divides documents, or other things that have ids, if they are in the order of their ids
pub begin_probes_ids : {T : Type 0} (id : T → List ℕ) (s : Search) → IsProbe (id_order id) (λ d. begin_at s (id_row (id d)))
begin_probes_ids id s = λ x y l n. begin_probes s.direction s.range.now (after_of s) (id_row (id x)) (id_row (id y)) (id_rows (id x) (id y) ∙ l) n
