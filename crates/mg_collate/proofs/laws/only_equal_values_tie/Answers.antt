use Rattle.mg_collate.proofs.Ties.{value_tie}
use Rattle.mg_collate.proofs.laws.only_equal_values_tie.Goals as goal

pub returns : goal.returns
returns c = value_tie
