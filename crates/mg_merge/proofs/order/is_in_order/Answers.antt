use Rattle.std.proofs.Common.{arith}
use Rattle.std.proofs.lemmas.Bool.{iff_false}
use Rattle.mg_merge.specs.Merged.{order_by}
use Rattle.mg_merge.proofs.Orders.{out_of_order, one_more_in_order}
use Rattle.mg_merge.proofs.order.is_in_order.Goals as goal

pub returns-then-comes_before : goal.returns-then-comes_before
returns-then-comes_before g c = (
  λ h. absurd cc,
  λ ordered. absurd (out_of_order (order_by g.T.Ranked.row_of c.args.direction) c.args.items.now c.loop-place.place c.index-items-place.result c.index-items-place-in-loop-place.result (omega arith) (omega arith) c.index-items-place.is c.index-items-place-in-loop-place.is
      (c.comes_before.ensures.0 c.if-comes_before.true) ordered),
)

pub loop-place-preserved : goal.loop-place-preserved
loop-place-preserved g c =
    one_more_in_order (order_by g.T.Ranked.row_of c.args.direction) c.args.items.now c.loop-place.place c.index-items-place.result c.index-items-place-in-loop-place.result (omega arith) (omega arith) c.index-items-place.is c.index-items-place-in-loop-place.is
    (iff_false c.comes_before.ensures c.if-comes_before.false) c.loop-place.invariant
