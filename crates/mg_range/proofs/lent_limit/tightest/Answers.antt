use Rattle.mg_normal.specs.View.{atoms_view}
use Rattle.mg_index.specs.Bound.{bounds_on}
use Rattle.mg_range.proofs.Limits.{tightest_is}
use Rattle.mg_range.proofs.lent_limit.tightest.Goals as goal

pub loop-atom-init : goal.loop-atom-init
loop-atom-init c = tightest_is c.args.direction (bounds_on (atoms_view c.args.atoms.now) c.args.column.now)
