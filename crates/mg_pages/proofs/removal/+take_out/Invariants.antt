use Rattle.std.proofs.Common.{◌+◌, ◌*◌}
use Rattle.std.specs.Arc.{arc_value}
use Rattle.mg_pages.specs.Subtree.{levels_of}
use Rattle.mg_pages.specs.Tree.{node_levels}
use Rattle.mg_pages.proofs.removal.+take_out.Given as goal

-- each call is one step nearer to the pages
abbrev pub decreases-take_out_among : goal.decreases-take_out_among
decreases-take_out_among g l = 5 * levels_of l.children.now.items

abbrev pub decreases-take_out_of_child : goal.decreases-take_out_of_child
decreases-take_out_of_child g l = 5 * l.child.now.levels + 4

abbrev pub decreases-take_out_of_shared : goal.decreases-take_out_of_shared
decreases-take_out_of_shared g l = 5 * (arc_value l.tree.now).levels + 3

abbrev pub decreases-take_out_of_tree : goal.decreases-take_out_of_tree
decreases-take_out_of_tree g l = 5 * l.tree.now.levels + 2

abbrev pub decreases-take_out_of_node : goal.decreases-take_out_of_node
decreases-take_out_of_node g l = 5 * node_levels l.node.now + 1
