use Rattle.mg_merge.proofs.Rows.{rows_of_merged}
use Rattle.mg_merge.proofs.laws.rows_of_a_merge.Goals as goal

pub returns : goal.returns
returns g c = rows_of_merged g.T.Ranked.row_of
