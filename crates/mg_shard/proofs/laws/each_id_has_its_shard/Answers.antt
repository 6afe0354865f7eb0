use Rattle.mg_shard.proofs.Dealing.{stands_at}
use Rattle.mg_shard.proofs.laws.each_id_has_its_shard.Goals as goal

pub returns : goal.returns
returns c = stands_at
