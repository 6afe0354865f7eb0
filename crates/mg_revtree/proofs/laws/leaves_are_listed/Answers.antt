use Rattle.mg_revtree.proofs.Losers as proved
use Rattle.mg_revtree.proofs.laws.leaves_are_listed.Goals as goal

pub returns : goal.returns
returns c = proved.leaves_are_listed
