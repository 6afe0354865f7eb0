use Rattle.std.proofs.Common.{IfOk, sym, subst}
use Rattle.mg_revtree.specs.History.{Paths}
use Rattle.mg_revtree.specs.Growth.{tree_in}
use Rattle.mg_revtree.specs.Tree.{StandsFor}
use Rattle.mg_revtree.specs.declared.growth.Growth.{Growth}
use Rattle.mg_revtree.proofs.growth.Growth.in_lists.Goals as goal

pub returns-in-First : goal.returns-in-First
returns-in-First c = subst (λ (g : Growth). IfOk c.of_first.result (λ grown. (h : Paths) → StandsFor (tree_in g) h → StandsFor grown h)) (sym c.in-First.is) c.of_first.ensures
