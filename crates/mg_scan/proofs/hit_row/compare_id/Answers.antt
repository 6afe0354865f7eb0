use Rattle.std.proofs.Common.{ap, sym, ◌∙◌}
use Rattle.std.specs.Ordering.{ordering_reverse}
use Rattle.mg_collate.specs.Row.{row_value_order_total}
use Rattle.mg_scan.specs.Begins.{id_rows}
use Rattle.mg_scan.specs.Walked.{id_row}
use Rattle.mg_scan.proofs.hit_row.compare_id.Goals as goal

pub returns-in-Bytes : goal.returns-in-Bytes
returns-in-Bytes c =
    let id = id_row c.args.id.now in
    rw c.in-Bytes.is (c.reverse.ensures ∙ ap ordering_reverse c.compare_to_id.ensures ∙ sym (row_value_order_total.antisymm id c.in-Bytes.other.now))

pub returns-in-Id : goal.returns-in-Id
returns-in-Id c = rw c.in-Id.is (c.cmp.ensures ∙ sym (id_rows c.args.id.now c.in-Id.other.now))
