use Rattle.mg_rows.specs.StandsFor.{one_value, one_row, one_row_of_parts}
use Rattle.mg_rows.proofs.laws.bytes_give_the_row.Goals as goal

pub returns-clause-values : goal.returns-clause-values
returns-clause-values c = one_value

pub returns-clause-rows : goal.returns-clause-rows
returns-clause-rows c = one_row

pub returns-clause-parts : goal.returns-clause-parts
returns-clause-parts c = one_row_of_parts
