use Rattle.std.proofs.Common.{◌∙◌, sym, subst}
use Rattle.mg_revtree.specs.Growth.{tree_in}
use Rattle.mg_revtree.specs.Tree.{Tree, AreLeaves, StandsFor}
use Rattle.mg_revtree.proofs.Lists.{are_leaves, leaves_list}
use Rattle.mg_revtree.proofs.tree.RevTree.leaves.Goals as goal

pub returns-clause-list : goal.returns-clause-list
returns-clause-list c = λ h stands.
    let s : StandsFor (tree_in c.self.inside.growth) h = subst (λ (t : Tree). StandsFor t h) (sym c.self.view_is) stands in
    c.in_ok-found.ensures ∙ c.leaves.ensures ∙ leaves_list h (tree_in c.self.inside.growth).leaves s.leaves

pub returns-clause-each : goal.returns-clause-each
returns-clause-each c = λ h stands. subst (AreLeaves h) (sym (returns-clause-list c h stands)) (are_leaves h)
