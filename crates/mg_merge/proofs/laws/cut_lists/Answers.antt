use Rattle.mg_merge.proofs.Cuts.{cut_in_order, cut_lists}
use Rattle.mg_merge.proofs.laws.cut_lists.Goals as goal

pub returns-clause-in_order : goal.returns-clause-in_order
returns-clause-in_order c = cut_in_order

pub returns-clause-same_rows : goal.returns-clause-same_rows
returns-clause-same_rows c = cut_lists
