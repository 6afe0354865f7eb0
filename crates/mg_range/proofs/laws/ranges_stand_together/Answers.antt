use Rattle.mg_range.proofs.Together.{together, rows_together}
use Rattle.mg_range.proofs.laws.ranges_stand_together.Goals as goal

pub returns-clause-keys : goal.returns-clause-keys
returns-clause-keys c = together

pub returns-clause-rows : goal.returns-clause-rows
returns-clause-rows c = rows_together
