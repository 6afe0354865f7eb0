use Rattle.mg_revtree.proofs.Fits as proved
use Rattle.mg_revtree.proofs.laws.accepted_in_every_order.Goals as goal

pub returns : goal.returns
returns c = proved.all_accepted
