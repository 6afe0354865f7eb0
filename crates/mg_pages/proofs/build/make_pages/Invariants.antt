use Rattle.std.proofs.Common.{◌≡◌, ◌++◌, length}
use Rattle.mg_pages.specs.Subtree.{elements_of}
use Rattle.mg_pages.proofs.build.make_pages.Given as goal

-- the pages so far, and the elements that are left
abbrev pub invariant-loop-rest : goal.invariant-loop-rest
invariant-loop-rest g l = elements_of l.pages.items ++ l.rest ≡ l.elements

abbrev pub decreases-loop-rest : goal.decreases-loop-rest
decreases-loop-rest g l = length l.rest
