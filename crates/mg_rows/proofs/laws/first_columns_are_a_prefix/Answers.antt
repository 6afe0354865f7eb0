use Rattle.mg_rows.proofs.Bounds.{row_front}
use Rattle.mg_rows.proofs.laws.first_columns_are_a_prefix.Goals as goal

pub returns : goal.returns
returns c = row_front
