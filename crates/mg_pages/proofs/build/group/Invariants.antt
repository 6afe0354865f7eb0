use Rattle.std.proofs.Common.{◌≡◌, ◌++◌, length}
use Rattle.mg_pages.specs.Subtree.{elements_of}
use Rattle.mg_pages.proofs.build.group.Given as goal

-- the levels so far, and the children that are left
abbrev pub invariant-loop-rest : goal.invariant-loop-rest
invariant-loop-rest g l = elements_of l.levels.items ++ elements_of l.rest ≡ elements_of l.children

abbrev pub decreases-loop-rest : goal.decreases-loop-rest
decreases-loop-rest g l = length l.rest
