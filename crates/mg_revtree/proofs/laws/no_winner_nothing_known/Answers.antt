use Rattle.mg_revtree.proofs.Leafless as proved
use Rattle.mg_revtree.proofs.laws.no_winner_nothing_known.Goals as goal

pub returns : goal.returns
returns c = proved.no_winner_nothing_known
