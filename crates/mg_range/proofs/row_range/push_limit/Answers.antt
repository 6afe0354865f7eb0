use Rattle.std.proofs.Common.{sym}
use Rattle.mg_range.proofs.Pushed.{joined_none}
use Rattle.mg_range.proofs.row_range.push_limit.Goals as goal

pub returns-in-None : goal.returns-in-None
returns-in-None c = rw c.in-None.is (sym (joined_none c.args.key.now))
