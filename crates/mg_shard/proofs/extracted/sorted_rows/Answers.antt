use Rattle.mg_shard.proofs.Rows.{put_in_order}
use Rattle.mg_shard.proofs.extracted.sorted_rows.Goals as goal

pub returns : goal.returns
returns c = put_in_order c.args.rows.items _ c.sort_unstable.ensures.permutation c.sort_unstable.ensures.sorted
