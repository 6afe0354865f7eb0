use Rattle.std.proofs.Common.{◌∙◌, List, sym, ap, subst}
use Rattle.mg_revtree.specs.Revision.{Revision}
use Rattle.mg_revtree.specs.History.{Leaf}
use Rattle.mg_revtree.specs.Steps.{IsLeafAt}
use Rattle.mg_revtree.specs.Tree.{AreRanked, leaf_in}
use Rattle.mg_revtree.proofs.Places.{others_kept, taken_away}
use Rattle.mg_revtree.proofs.leaf_list.take_away.Goals as goal

pub returns-in-Some-clause-kept : goal.returns-in-Some-clause-kept
returns-in-Some-clause-kept c = λ ranked apart.
    let r : Revision = (c.args.pos, c.args.id.now) in
    let ns = c.args.leaves.now.items in
    c.remove.ensures.items ∙ taken_away r ns c.in-Some.at (subst (λ (ls : List Leaf). IsLeafAt r ls c.in-Some.at) c.deref.ensures.value c.in-Some.ensures.found.1) apart

pub returns-in_default-clause-kept : goal.returns-in_default-clause-kept
returns-in_default-clause-kept c = λ ranked apart.
    let r : Revision = (c.args.pos, c.args.id.now) in
    let ns = c.args.leaves.now.items in
    others_kept r ns (ap (leaf_in r) (sym c.deref.ensures.value) ∙ c.in_default.ensures.absent (subst AreRanked (sym c.deref.ensures.value) ranked))
