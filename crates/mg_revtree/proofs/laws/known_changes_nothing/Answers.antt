use Rattle.mg_revtree.proofs.Replicas as proved
use Rattle.mg_revtree.proofs.laws.known_changes_nothing.Goals as goal

pub returns : goal.returns
returns c = proved.known_changes_nothing
