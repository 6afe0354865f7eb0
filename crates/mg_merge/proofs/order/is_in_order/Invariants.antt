use Rattle.mg_merge.specs.Merged.{order_by}
use Rattle.mg_merge.proofs.Orders.{InOrderBelow}
use Rattle.mg_merge.proofs.order.is_in_order.Given as goal

abbrev pub invariant-loop-place : goal.invariant-loop-place
invariant-loop-place g l = InOrderBelow (order_by g.T.Ranked.row_of l.direction) l.items l.place
