use Rattle.std.proofs.Common.{◌+◌, ◌*◌}
use Rattle.std.specs.Arc.{arc_value}
use Rattle.mg_pages.specs.Subtree.{levels_of}
use Rattle.mg_pages.specs.Tree.{node_levels}
use Rattle.mg_pages.proofs.insertion.+put.Given as goal

-- each call is one step nearer to the pages
abbrev pub decreases-put_among : goal.decreases-put_among
decreases-put_among g l = 5 * levels_of l.children.now.items

abbrev pub decreases-put_in_child : goal.decreases-put_in_child
decreases-put_in_child g l = 5 * l.child.now.levels + 4

abbrev pub decreases-put_shared : goal.decreases-put_shared
decreases-put_shared g l = 5 * (arc_value l.tree.now).levels + 3

abbrev pub decreases-put_in_tree : goal.decreases-put_in_tree
decreases-put_in_tree g l = 5 * l.tree.now.levels + 2

abbrev pub decreases-put_in_node : goal.decreases-put_in_node
decreases-put_in_node g l = 5 * node_levels l.node.now + 1
