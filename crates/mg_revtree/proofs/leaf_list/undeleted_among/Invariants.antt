use Rattle.std.proofs.Common.{◌≡◌, filter, map, not, take}
use Rattle.mg_revtree.proofs.leaf_list.undeleted_among.Given as goal

abbrev pub invariant-loop-shared : goal.invariant-loop-shared
invariant-loop-shared l = map (λ x. x.now) l.found.items ≡ filter (λ x. not x.deleted) (take l.shared-index l.leaves)
