use Rattle.std.proofs.Common.{◌≡◌, ◌∙◌, [], map, sym, ap, subst, arith}
use Rattle.std.proofs.lemmas.Grind.{common_steps}
use Rattle.mg_revtree.specs.Growth.{tree_in}
use Rattle.mg_revtree.specs.Tree.{Tree, StandsFor, AreLeaves, AreLosers}
use Rattle.mg_revtree.proofs.Losers.{are_losers, losers_are, losers_list, losers_rest}
use Rattle.mg_revtree.proofs.tree.RevTree.losers.Goals as goal

pub returns-then-is_empty-clause-list : goal.returns-then-is_empty-clause-list
returns-then-is_empty-clause-list c = λ h stands.
    let ls = c.leaves-leaves.result.now in
    let s : StandsFor (tree_in c.self.inside.growth) h = subst (λ (t : Tree). StandsFor t h) (sym c.self.view_is) stands in
    let n : ls ≡ [] = grind (arith, common_steps, c.is_empty.ensures, c.if-is_empty.true) in
    ap (map (λ l. l.now)) c.new.ensures.items ∙ losers_list h [] (losers_are h [] (subst (AreLeaves h) (sym c.leaves-leaves.ensures ∙ n) s.leaves))

pub returns-in_err-undeleted_among-clause-none : goal.returns-in_err-undeleted_among-clause-none
returns-in_err-undeleted_among-clause-none c = λ h stands none.
    let s : StandsFor (tree_in c.self.inside.growth) h = subst (λ (t : Tree). StandsFor t h) (sym c.self.view_is) stands in
    absurd (let ok = c.in_err-undeleted_among.ensures.none (losers_rest h (tree_in c.self.inside.growth).leaves c.leaves-leaves.result.now s.leaves c.leaves-leaves.ensures ∙ none) in cc)

pub returns-clause-list : goal.returns-clause-list
returns-clause-list c = λ h stands.
    let s : StandsFor (tree_in c.self.inside.growth) h = subst (λ (t : Tree). StandsFor t h) (sym c.self.view_is) stands in
    c.in_ok-undeleted_among.ensures.kept ∙ losers_rest h (tree_in c.self.inside.growth).leaves c.leaves-leaves.result.now s.leaves c.leaves-leaves.ensures

pub returns-clause-each : goal.returns-clause-each
returns-clause-each c = λ h stands. subst (AreLosers h) (sym (returns-clause-list c h stands)) (are_losers h)
