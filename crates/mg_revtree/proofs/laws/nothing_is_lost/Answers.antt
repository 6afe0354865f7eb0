use Rattle.mg_revtree.proofs.Replicas as proved
use Rattle.mg_revtree.proofs.laws.nothing_is_lost.Goals as goal

pub returns : goal.returns
returns c = proved.nothing_is_lost
