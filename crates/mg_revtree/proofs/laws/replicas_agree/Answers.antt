use Rattle.mg_revtree.proofs.Replicas as proved
use Rattle.mg_revtree.proofs.laws.replicas_agree.Goals as goal

pub returns : goal.returns
returns c = proved.replicas_agree
