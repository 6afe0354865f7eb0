use Rattle.mg_index.proofs.Best.{preference_total, decides}
use Rattle.mg_index.proofs.laws.preference_is_a_total_order.Goals as goal

pub returns-clause-total : goal.returns-clause-total
returns-clause-total c = preference_total

pub returns-clause-decides : goal.returns-clause-decides
returns-clause-decides c = decides
