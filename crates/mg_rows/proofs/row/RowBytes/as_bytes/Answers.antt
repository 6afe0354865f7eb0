use Rattle.std.proofs.Common.{ap, ◌∙◌}
use Rattle.mg_rows.specs.Bytes.{row_bytes}
use Rattle.mg_rows.proofs.Joined.{row_joined}
use Rattle.mg_rows.proofs.row.RowBytes.as_bytes.Goals as goal

pub returns-clause-bytes : goal.returns-clause-bytes
returns-clause-bytes c =
    let row = c.self.inside.row in
    row_joined c.bytes.result.now c.self.inside.bytes row.0 c.bytes.ensures row.1 ∙ ap row_bytes c.self.view_is
