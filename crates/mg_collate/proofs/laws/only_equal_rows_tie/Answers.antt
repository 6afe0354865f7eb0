use Rattle.mg_collate.proofs.Ties.{row_tie}
use Rattle.mg_collate.proofs.laws.only_equal_rows_tie.Goals as goal

pub returns : goal.returns
returns c = row_tie
