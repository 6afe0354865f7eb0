use Rattle.std.proofs.Common.{◌≡◌, ◌∙◌, List, [], ◌∷◌, ap, sym, subst}
use Rattle.mg_revtree.specs.Revision.{Revision}
use Rattle.mg_revtree.specs.History.{Leaf, links}
use Rattle.mg_revtree.specs.Tree.{AreKnownLinks, StandsFor}
use Rattle.mg_revtree.proofs.Firsts.{stands_grown}
use Rattle.mg_revtree.proofs.grown.Grown.of_first.Goals as goal

pub returns : goal.returns
returns c = λ h stands.
    let first : Leaf = c.args.first.now in
    let rev : c.behind-first.inside.rev ≡ first.rev = ap (λ (l : Leaf). l.rev) (c.behind-first.view_is ∙ c.leaf.ensures) in
    let joined : AreKnownLinks c.in_ok-links.links (links (first.rev ∷ [])) = subst (λ (r : Revision). AreKnownLinks c.in_ok-links.links (links (r ∷ []))) rev c.in_ok-links.ensures in
    subst (λ (ls : List Leaf). StandsFor (record { links = c.in_ok-links.links; leaves = ls }) h) (sym c.in_ok-leaves.ensures) (stands_grown h first c.in_ok-links.links joined stands)
