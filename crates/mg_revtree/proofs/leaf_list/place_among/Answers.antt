use Rattle.mg_revtree.specs.Revision.{Revision}
use Rattle.std.proofs.Common.{true, false}
use Rattle.mg_revtree.specs.Steps.{marked_as}
use Rattle.mg_revtree.proofs.Places.{between_none, tied_at}
use Rattle.mg_revtree.proofs.leaf_list.place_among.Goals as goal

pub returns-in-Ok-clause-found : goal.returns-in-Ok-clause-found
returns-in-Ok-clause-found c =
    let r : Revision = (c.args.pos, c.args.id.now) in
    (c.in-Ok.ensures.found.0, tied_at (marked_as false r) c.args.leaves.now c.in-Ok.at c.in-Ok.ensures.found.1)

pub returns-in-Ok-place_of-clause-found : goal.returns-in-Ok-place_of-clause-found
returns-in-Ok-place_of-clause-found c =
    let r : Revision = (c.args.pos, c.args.id.now) in
    (c.in-Ok-place_of.ensures.found.0, tied_at (marked_as true r) c.args.leaves.now c.in-Ok-place_of.at c.in-Ok-place_of.ensures.found.1)

pub returns-in-Err-clause-absent : goal.returns-in-Err-clause-absent
returns-in-Err-clause-absent c = λ ranked.
    between_none (c.args.pos, c.args.id.now) c.args.leaves.now c.in_default.field-0 c.in-Err.field-0 (c.in_default.ensures.absent.1 ranked) (c.in-Err.ensures.absent.1 ranked)
