use Rattle.mg_revtree.proofs.Winners as proved
use Rattle.mg_revtree.proofs.laws.winner_is_best.Goals as goal

pub returns : goal.returns
returns c = proved.winner_is_best
