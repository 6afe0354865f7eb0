use Rattle.mg_rows.specs.ByteOrder.{row_cmp}
use Rattle.mg_rows.proofs.laws.rows_are_in_the_order_of_their_bytes.Goals as goal

pub returns : goal.returns
returns c = row_cmp
