use Rattle.mg_index.proofs.Best.{preference_total, least_is}
use Rattle.mg_index.proofs.laws.the_least_is_preferred_to_all.Goals as goal

pub returns : goal.returns
returns c = λ atoms hint ds d h. least_is (preference_total atoms hint) ds d h
