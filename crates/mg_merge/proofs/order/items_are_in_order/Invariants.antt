use Rattle.std.proofs.Common.{ℕ, ◌<◌, List, get_or}
use Rattle.mg_merge.specs.Merged.{IsInOrderBy, contents_of}
use Rattle.mg_merge.proofs.order.items_are_in_order.Given as goal

abbrev pub invariant-loop-list : goal.invariant-loop-list
invariant-loop-list g l = (k : ℕ) (d : List _) → k < l.list-index → IsInOrderBy g.T.Ranked.row_of l.direction (get_or (contents_of l.lists) k d)
