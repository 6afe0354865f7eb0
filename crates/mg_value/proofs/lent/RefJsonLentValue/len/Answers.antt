use Rattle.std.proofs.Common.{sym}
use Rattle.mg_value.proofs.Items.{length-items_view}
use Rattle.mg_value.proofs.lent.RefJsonLentValue.len.Goals as goal

pub returns : goal.returns
returns c = sym (length-items_view c.args.list.now.now)
