use Rattle.mg_revtree.proofs.Places.{not_tied_at, put_between}
use Rattle.mg_revtree.proofs.leaf_list.rank.Goals as goal

pub returns-in-Ok-clause-ranked : goal.returns-in-Ok-clause-ranked
returns-in-Ok-clause-ranked c = λ ranked none. absurd (not_tied_at c.args.leaf.now c.args.leaves.now c.in-Ok.at none c.in-Ok.ensures.found.1)

pub returns-in-Err-clause-ranked : goal.returns-in-Err-clause-ranked
returns-in-Err-clause-ranked c = λ ranked none. put_between c.args.leaf.now c.args.leaves.now c.in-Err.at (c.in-Err.ensures.absent.1 ranked)
