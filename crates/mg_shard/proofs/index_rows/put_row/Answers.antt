use Rattle.std.proofs.Common.{sym, ap, ◌∙◌}
use Rattle.mg_shard.specs.Mended.{with_row}
use Rattle.mg_shard.proofs.index_rows.put_row.Goals as goal

pub returns-in_ok-insert : goal.returns-in_ok-insert
returns-in_ok-insert c = c.in_ok-insert.ensures.ok ∙ sym (ap (λ o. with_row o c.args.rows.now) c.in-Some.is)
