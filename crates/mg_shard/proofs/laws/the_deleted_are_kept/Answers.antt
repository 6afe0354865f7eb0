use Rattle.mg_shard.proofs.Standing.{same_deleted}
use Rattle.mg_shard.proofs.laws.the_deleted_are_kept.Goals as goal

pub returns : goal.returns
returns c = same_deleted
