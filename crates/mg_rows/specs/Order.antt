-- The order of rows, for Rust's comparison traits.
use Rattle.std.specs.Cmp.{IsEquivalence, IsPartialEquivalence, IsPartialOrder, partial_equiv_from_equiv, partial_order_from_total}
use Rattle.std.specs.Ordering.{eq_by_cmp, as_partial_cmp}
use Rattle.std.proofs.lemmas.Cmp.{eq_by_cmp_equiv}
use Rattle.mg_collate.specs.Row.{row_value_order, row_value_order_total}

-- `==` of rows is an equivalence
pub row_value_equivalence : IsEquivalence (eq_by_cmp row_value_order)
row_value_equivalence = eq_by_cmp_equiv row_value_order_total

-- the laws of `==`
pub row_value_eq_laws : IsPartialEquivalence (eq_by_cmp row_value_order)
row_value_eq_laws = partial_equiv_from_equiv row_value_equivalence

-- the laws of `<`
pub row_value_partial_laws : IsPartialOrder (eq_by_cmp row_value_order) (as_partial_cmp row_value_order)
row_value_partial_laws = partial_order_from_total row_value_order_total
