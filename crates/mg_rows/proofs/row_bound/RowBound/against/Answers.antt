use Rattle.std.proofs.Common.{ap, ◌∙◌}
use Rattle.mg_rows.specs.Bytes.{bytes_order}
use Rattle.mg_rows.proofs.Bounds.{bound_rows}
use Rattle.mg_rows.proofs.row_bound.RowBound.against.Goals as goal

pub returns-clause-rows : goal.returns-clause-rows
returns-clause-rows c =
    bound_rows c.cmp.result c.self.inside.bytes.items c.as_bytes.result.now c.self.inside.place c.args.self.now c.args.row.now c.self.view_is
    (c.cmp.ensures ∙ ap (λ s. bytes_order s c.as_bytes.result.now) c.as_slice.ensures.value) c.as_bytes.ensures.bytes c.as_bytes.ensures.stored
