use Rattle.mg_merge.proofs.Rows.{all_by_rows, all_rows_by}
use Rattle.mg_merge.proofs.order.are_in_order.Goals as goal

pub returns : goal.returns
returns c = (
  λ h. all_rows_by c.args.direction c.args.lists.now (c.items_are_in_order.ensures.0 h),
  λ ordered. c.items_are_in_order.ensures.1 (all_by_rows c.args.direction c.args.lists.now ordered),
)
