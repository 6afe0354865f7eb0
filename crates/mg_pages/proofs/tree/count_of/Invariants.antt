use Rattle.std.proofs.Common.{◌≡◌, length, take}
use Rattle.mg_pages.specs.Subtree.{elements_of}
use Rattle.mg_pages.proofs.tree.count_of.Given as goal

-- the count is the number of elements of the children so far
abbrev pub invariant-loop-child : goal.invariant-loop-child
invariant-loop-child g l = l.count ≡ length (elements_of (take l.child-index l.children))
