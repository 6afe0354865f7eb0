-- A page or a level is above its children.
use Rattle.std.specs.Prelude.{◌+◌, ◌*◌, ◌≤◌, max, List, [], ◌∷◌}
use Rattle.std.proofs.Common.{arith}
use Rattle.std.specs.declared.alloc.Global.{Global}
use Rattle.std.specs.declared.sync.Arc.{Arc}
use Rattle.mg_pages.specs.Subtree.{Subtree, child_rank, tree_rank, levels_of}
use Rattle.mg_pages.specs.Tree.{node_levels}
use Rattle.mg_pages.specs.declared.tree.Child.TheDeep.{deep-Node}
use Rattle.mg_pages.specs.declared.tree.Node.{Node}
use Rattle.mg_pages.specs.declared.tree.Node.TheVariants.{Page, Level}
use denote.Param.Weighed.{most}

most_le-levels_of : {T : Type 0} → (ts : List (Subtree T)) → most (λ t. child_rank t + 1) ts ≤ 2 * levels_of ts
most_le-levels_of [] = omega arith
most_le-levels_of (t ∷ ts) = omega (arith, most_le-levels_of ts)

pub node_falls : {T : Type 0} → (n : Node T) → max (deep-Node T n) 0 ≤ 2 * node_levels n
node_falls (Page xs) = omega arith
node_falls (Level cs) = omega (arith, most_le-levels_of cs.items)

pub child_falls : {T : Type 0} → (t : Arc (Subtree T) Global) → max (tree_rank t.value + 1) 0 ≤ child_rank t.value
child_falls t = omega arith
