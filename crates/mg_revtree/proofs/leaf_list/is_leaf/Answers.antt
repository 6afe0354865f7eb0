use Rattle.std.proofs.Common.{◌≡◌, is_some}
use Rattle.mg_revtree.specs.Tree.{leaf_in}
use Rattle.mg_revtree.proofs.Places.{found_if_leaf}
use Rattle.mg_revtree.proofs.leaf_list.is_leaf.Goals as goal

pub returns : goal.returns
returns c = λ ranked.
    let e : is_some c.place_among.result ≡ is_some (leaf_in (c.args.pos, c.args.id.now) c.args.leaves.now) = found_if_leaf (c.args.pos, c.args.id.now) c.args.leaves.now c.place_among.result c.place_among.ensures.found c.place_among.ensures.absent ranked in
    cc
