use Rattle.std.proofs.Common.{ap, ◌∙◌}
use Rattle.mg_value.specs.Value.{no_items, item, text}
use Rattle.mg_rows.specs.Bytes.{bytes_order, row_bytes}
use Rattle.mg_rows.specs.ByteOrder.{row_cmp}
use Rattle.mg_rows.proofs.row.RowBytes.compare_to_id.Goals as goal

pub returns : goal.returns
returns c =
    let id = c.args.id.now in
    c.against_id_row.ensures ∙ ap (λ s. bytes_order s (row_bytes (item (text id) no_items, id))) c.as_bytes.ensures.bytes
    ∙ row_cmp c.args.self.now (item (text id) no_items, id) c.as_bytes.ensures.stored ((c.utf8.id, tt), c.utf8.id)
