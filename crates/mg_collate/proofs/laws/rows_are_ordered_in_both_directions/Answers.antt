use Rattle.mg_collate.proofs.Directed.{directed_total}
use Rattle.mg_collate.proofs.laws.rows_are_ordered_in_both_directions.Goals as goal

pub returns-clause-total : goal.returns-clause-total
returns-clause-total c = directed_total
