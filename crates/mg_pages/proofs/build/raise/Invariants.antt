use Rattle.std.proofs.Common.{◌≡◌}
use Rattle.mg_pages.specs.Subtree.{elements_of}
use Rattle.mg_pages.proofs.build.raise.Given as goal

abbrev pub invariant-loop : goal.invariant-loop
invariant-loop g l = elements_of l.top.items ≡ elements_of l.fn.children.items
