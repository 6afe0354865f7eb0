use Rattle.std.proofs.Common.{◌∙◌, Some, ap}
use Rattle.mg_revtree.proofs.Ancestors.{leaf_copied}
use Rattle.mg_revtree.proofs.leaf_list.leaf_of.Goals as goal

pub returns-in-Some : goal.returns-in-Some
returns-in-Some c = λ ranked apart.
    ap Some c.leaf.ensures ∙ leaf_copied (c.args.pos, c.args.id.now) c.args.leaves.now c.in-Some.at c.index-leaves-at.result c.in-Some.ensures.found.1 apart c.index-leaves-at.is
