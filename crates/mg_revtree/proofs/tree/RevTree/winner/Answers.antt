use Rattle.std.proofs.Common.{◌≡◌, ◌∙◌, ◌<◌, Some, length, ap, sym, subst, arith}
use Rattle.std.proofs.lemmas.Grind.{common_steps}
use Rattle.mg_revtree.specs.Growth.{tree_in}
use Rattle.mg_revtree.specs.Tree.{Tree, AreLeaves, StandsFor}
use Rattle.mg_revtree.proofs.Winners.{none_wins, front_wins}
use Rattle.mg_revtree.proofs.tree.RevTree.winner.Goals as goal

pub returns-then-is_empty-clause-winner : goal.returns-then-is_empty-clause-winner
returns-then-is_empty-clause-winner c = λ h stands.
    let ls = c.leaves-leaves.result.now in
    let s : StandsFor (tree_in c.self.inside.growth) h = subst (λ (t : Tree). StandsFor t h) (sym c.self.view_is) stands in
    let n : length ls ≡ 0 = grind (arith, common_steps, c.is_empty.ensures, c.if-is_empty.true) in
    sym (none_wins h ls n (subst (AreLeaves h) (sym c.leaves-leaves.ensures) s.leaves))

pub returns-clause-winner : goal.returns-clause-winner
returns-clause-winner c = λ h stands.
    let ls = c.leaves-leaves.result.now in
    let s : StandsFor (tree_in c.self.inside.growth) h = subst (λ (t : Tree). StandsFor t h) (sym c.self.view_is) stands in
    let n : 0 < length ls = grind (arith, common_steps, c.is_empty.ensures, c.if-is_empty.false) in
    ap Some c.leaf.ensures ∙ sym (front_wins h c.index-leaves-0.result ls n c.index-leaves-0.is (subst (AreLeaves h) (sym c.leaves-leaves.ensures) s.leaves))
