use Rattle.mg_normal.proofs.Necessary as proved
use Rattle.mg_normal.proofs.laws.atoms_are_necessary.Goals as goal

pub returns : goal.returns
returns c = proved.atoms_are_necessary
