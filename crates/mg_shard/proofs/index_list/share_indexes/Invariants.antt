use Rattle.std.proofs.Common.{◌≡◌, ◌++◌, length}
use Rattle.mg_shard.proofs.index_list.share_indexes.Given as goal

-- the indexes so far and those that are left are all indexes
abbrev pub invariant-loop-index : goal.invariant-loop-index
invariant-loop-index l = l.all.items ++ l.index-iterator ≡ l.indexes

abbrev pub decreases-loop-index : goal.decreases-loop-index
decreases-loop-index l = length l.index-iterator
