use Rattle.std.proofs.Common.{sym}
use Rattle.mg_query.proofs.Items.{lent_length}
use Rattle.mg_query.proofs.source.key_width.Goals as goal

pub returns : goal.returns
returns c = sym (lent_length c.args.key.now)
