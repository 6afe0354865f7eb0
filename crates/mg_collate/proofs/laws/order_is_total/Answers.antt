use Rattle.mg_collate.proofs.Ties.{value_order_total}
use Rattle.mg_collate.proofs.laws.order_is_total.Goals as goal

pub returns : goal.returns
returns c = value_order_total
