use Rattle.std.proofs.Common.{◌≡◌, ◌<◌, ◌≤◌, ◌++◌, ℕ, drop, get_or, length, take}
use Rattle.mg_revtree.specs.Tree.{AreSorted}
use Rattle.mg_revtree.specs.Nodes.{NodesWithin, IsExtendedBy, link_in, links_in}
use Rattle.mg_revtree.specs.Known.{AreBelow, with_links}
use Rattle.mg_revtree.specs.declared.links.node.Node.{Node}
use Rattle.mg_revtree.proofs.links.fold.fold_links.Given as goal

abbrev pub invariant-loop-node : goal.invariant-loop-node
invariant-loop-node l = record {
  grows : IsExtendedBy l.initial.texts.items l.texts.items;
  from : l.from ≤ length l.older;
  within : NodesWithin (length l.initial.texts.items) l.older → NodesWithin (length l.texts.items) l.made.items;
  links : NodesWithin (length l.initial.texts.items) l.older → AreSorted (links_in l.initial.texts.items l.older) → AreSorted (links_in l.other l.newer) → links_in l.texts.items l.made.items ++ links_in l.texts.items (drop l.from l.older) ≡ with_links (links_in l.initial.texts.items l.older) (links_in l.other (take l.node-index l.newer));
  below : NodesWithin (length l.initial.texts.items) l.older → AreSorted (links_in l.initial.texts.items l.older) → AreSorted (links_in l.other l.newer) → (j : ℕ) (d : Node) → l.node-index ≤ j → j < length l.newer → AreBelow (link_in l.other (get_or l.newer j d)).rev (links_in l.texts.items l.made.items);
}
