use Rattle.std.proofs.Common.{◌≡◌, ◌∙◌, ◌<◌, ◌^◌, arith, rules, sym, ap, subst, option_copied}
use Rattle.mg_revtree.specs.Growth.{tree_in}
use Rattle.mg_revtree.specs.Tree.{AreRanked, Tree, StandsFor}
use Rattle.mg_revtree.specs.Changes.{may_extend}
use Rattle.mg_revtree.specs.Steps.{base_in}
use Rattle.mg_revtree.proofs.Extend.{base_is, position_is, position_ok, position_refused}
use Rattle.mg_revtree.proofs.tree.RevTree.next_position.Goals as goal

pub returns-in-Some-clause-position : goal.returns-in-Some-clause-position
returns-in-Some-clause-position c = λ h stands.
    let ls = (tree_in c.self.inside.growth).leaves in
    let p = option_copied c.args.parent in
    let s : StandsFor (tree_in c.self.inside.growth) h = subst (λ (t : Tree). StandsFor t h) (sym c.self.view_is) stands in
    let e : base_in c.leaves.result.now p ≡ may_extend h p = ap (λ v. base_in v p) c.leaves.ensures ∙ base_is h ls s.leaves p in
    let fits : c.in-Some.below < 2 ^ 32 = first_of (omega arith, omega (arith, rw c.in-Some.is at c.position_under.type_inv), search rules) in
    position_is h p c.in-Some.below c.checked_add.result c.ok_or.result (sym e ∙ c.in-Some.ensures.asked (subst AreRanked (sym c.leaves.ensures) s.leaves.ranked)) c.in-Some.ensures.below c.checked_add.ensures fits c.ok_or.ensures.value

pub returns-in-Some-clause-above : goal.returns-in-Some-clause-above
returns-in-Some-clause-above c = position_ok (option_copied c.args.parent) c.in-Some.below c.checked_add.result c.ok_or.result c.in-Some.ensures.below c.checked_add.ensures c.ok_or.ensures.value

pub returns-in-None-clause-position : goal.returns-in-None-clause-position
returns-in-None-clause-position c = λ h stands.
    let ls = (tree_in c.self.inside.growth).leaves in
    let p = option_copied c.args.parent in
    let s : StandsFor (tree_in c.self.inside.growth) h = subst (λ (t : Tree). StandsFor t h) (sym c.self.view_is) stands in
    let e : base_in c.leaves.result.now p ≡ may_extend h p = ap (λ v. base_in v p) c.leaves.ensures ∙ base_is h ls s.leaves p in
    position_refused h p (sym e ∙ c.in-None.ensures.asked (subst AreRanked (sym c.leaves.ensures) s.leaves.ranked))
