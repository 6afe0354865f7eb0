use Rattle.std.proofs.Common.{sym, ap, ◌∙◌}
use Rattle.mg_shard.specs.Mended.{without_row}
use Rattle.mg_shard.proofs.index_rows.take_row.Goals as goal

pub returns-in_ok-remove : goal.returns-in_ok-remove
returns-in_ok-remove c = c.in_ok-remove.ensures.ok ∙ sym (ap (λ o. without_row o c.args.rows.now) c.in-Some.is)
