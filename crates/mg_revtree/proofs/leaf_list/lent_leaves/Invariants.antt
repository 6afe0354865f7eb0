use Rattle.std.proofs.Common.{◌≡◌, map, take}
use Rattle.mg_revtree.proofs.leaf_list.lent_leaves.Given as goal

abbrev pub invariant-loop-shared : goal.invariant-loop-shared
invariant-loop-shared l = map (λ x. x.now) l.found.items ≡ take l.shared-index l.leaves
