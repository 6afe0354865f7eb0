use Rattle.mg_range.proofs.Complete.{complete}
use Rattle.mg_range.proofs.laws.ranges_are_complete.Goals as goal

pub returns : goal.returns
returns c = complete c.atoms_are_necessary.ensures
