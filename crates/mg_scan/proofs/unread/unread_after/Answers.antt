use Rattle.std.proofs.Common.{ap}
use Rattle.mg_scan.specs.declared.unread.Unread.TheVariants as unread
use Rattle.mg_scan.proofs.unread.unread_after.Goals as goal

pub returns-in-Rows-clause-after : goal.returns-in-Rows-clause-after
returns-in-Rows-clause-after c = rw c.in-Rows.is (ap unread.Rows c.advance.ensures)
