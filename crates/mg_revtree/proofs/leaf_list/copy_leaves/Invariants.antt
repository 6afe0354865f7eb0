use Rattle.std.proofs.Common.{◌≡◌, take}
use Rattle.mg_revtree.proofs.leaf_list.copy_leaves.Given as goal

abbrev pub invariant-loop-leaf : goal.invariant-loop-leaf
invariant-loop-leaf l = l.made.items ≡ take l.leaf-index l.leaves
