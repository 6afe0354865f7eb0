use Rattle.mg_revtree.proofs.Leafless as proved
use Rattle.mg_revtree.proofs.laws.paths_fall.Goals as goal

pub returns : goal.returns
returns c = proved.paths_fall
