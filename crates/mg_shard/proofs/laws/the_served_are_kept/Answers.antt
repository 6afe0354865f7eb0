use Rattle.mg_shard.proofs.Standing.{same_docs}
use Rattle.mg_shard.proofs.laws.the_served_are_kept.Goals as goal

pub returns : goal.returns
returns c = same_docs
