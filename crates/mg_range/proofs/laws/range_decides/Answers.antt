use Rattle.mg_range.proofs.Deciding.{decides, decides_atoms, decides_form}
use Rattle.mg_range.proofs.laws.range_decides.Goals as goal

pub returns-clause-atoms : goal.returns-clause-atoms
returns-clause-atoms c = decides_atoms

pub returns-clause-form : goal.returns-clause-form
returns-clause-form c = decides_form

pub returns-clause-selector : goal.returns-clause-selector
returns-clause-selector c = decides
