-- Rows of an index: the key, then the id of the document, as in the rows of a CouchDB view.
use Rattle.std.specs.Prelude.{ℕ, List, map, string_bytes}
use Rattle.std.specs.declared.cmp.Ordering.{Ordering}
use Rattle.std.specs.Cmp.{IsTotalOrder, IsEquivalence, IsPartialEquivalence, IsPartialOrder, then_total, partial_equiv_from_equiv, partial_order_from_total}
use Rattle.std.proofs.lemmas.Cmp.{on_total, lists_total, int_cmp_total, nat_list_cmp_total, eq_by_cmp_equiv}
use Rattle.std.specs.Cmp.Lexicographic.{slice_cmp}
use Rattle.std.specs.Ordering.{on, then_cmp, nat_cmp, int_cmp, eq_by_cmp, as_partial_cmp}
use Rattle.mg_value.specs.Value.{list, Items}
use Rattle.mg_value.specs.View.{items_view}
use Rattle.mg_collate.specs.Order.{flat}
use Rattle.mg_collate.specs.Direction.{directed}
use Rattle.mg_collate.specs.declared.direction.Direction.{Direction}
use Rattle.mg_collate.specs.declared.row.Row.{Row}

-- what a row stands for: the values of its key, and the bytes of its id
abbrev pub RowValue : Type 0
RowValue = Items × List ℕ

-- the key and the id of a row
abbrev pub row_view : Row → RowValue
row_view r = (items_view r.key.items, string_bytes r.id)

-- what the rows of a list stand for
abbrev pub rows_view : List Row → List RowValue
rows_view rows = map row_view rows

-- the order of rows by their keys, as arrays
abbrev pub key_order : RowValue → RowValue → Ordering
key_order = on (λ r. flat (list r.0)) (slice_cmp int_cmp)

-- the order of rows by their ids, byte by byte
abbrev pub id_order : RowValue → RowValue → Ordering
id_order = on (λ r. r.1) (slice_cmp nat_cmp)

-- the order of row values: by key, and values of equal keys by id
abbrev pub row_value_order : RowValue → RowValue → Ordering
row_value_order = then_cmp key_order id_order

-- the order of the code's rows: that of the row values that they stand for
abbrev pub row_order : Row → Row → Ordering
row_order = on row_view row_value_order

-- the order of rows in a direction
abbrev pub directed_order : Direction → RowValue → RowValue → Ordering
directed_order direction a b = directed direction (row_value_order a b)

-- ---- the laws that Rust's comparison traits require

-- the order of row values is total
pub row_value_order_total : IsTotalOrder row_value_order
row_value_order_total = then_total (on_total (λ r. flat (list r.0)) (lists_total int_cmp_total)) (on_total (λ r. r.1) nat_list_cmp_total)

-- the order of the code's rows is total
pub row_order_total : IsTotalOrder row_order
row_order_total = on_total row_view row_value_order_total

-- `==` of rows is an equivalence
pub row_equivalence : IsEquivalence (eq_by_cmp row_order)
row_equivalence = eq_by_cmp_equiv row_order_total

-- the laws of `==`
pub row_eq_laws : IsPartialEquivalence (eq_by_cmp row_order)
row_eq_laws = partial_equiv_from_equiv row_equivalence

-- the laws of `<`
pub row_partial_laws : IsPartialOrder (eq_by_cmp row_order) (as_partial_cmp row_order)
row_partial_laws = partial_order_from_total row_order_total
