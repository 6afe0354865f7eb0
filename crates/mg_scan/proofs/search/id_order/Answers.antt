use Rattle.std.proofs.Common.{Some, ap, sym, ◌∙◌}
use Rattle.std.specs.Ordering.{ordering_reverse}
use Rattle.mg_collate.specs.Row.{row_value_order_total}
use Rattle.mg_scan.specs.Walked.{id_row}
use Rattle.mg_scan.proofs.search.id_order.Goals as goal

pub returns-in-Some : goal.returns-in-Some
returns-in-Some c = rw c.in-Some.is (
    ap Some (c.reverse.ensures ∙ ap ordering_reverse c.compare_to_id.ensures ∙ sym (row_value_order_total.antisymm (id_row c.args.id.now) c.in-Some.after.now)))
