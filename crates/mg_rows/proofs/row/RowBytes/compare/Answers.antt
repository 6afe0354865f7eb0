use Rattle.std.proofs.Common.{◌∙◌}
use Rattle.mg_rows.specs.ByteOrder.{row_cmp}
use Rattle.mg_rows.proofs.Joined.{rows_bytes}
use Rattle.mg_rows.proofs.row.RowBytes.compare.Goals as goal

pub returns-clause-rows : goal.returns-clause-rows
returns-clause-rows c =
    let a = c.args.self.now in
    let b = c.args.other.now in
    rows_bytes _ _ a b _ c.cmp.ensures c.as_bytes.ensures.bytes c.as_bytes-2.ensures.bytes ∙ row_cmp a b c.as_bytes.ensures.stored c.as_bytes-2.ensures.stored
