use Rattle.mg_engine.proofs.Resharding.{same_world}
use Rattle.mg_engine.proofs.laws.reshards_change_no_world.Goals as goal

pub returns : goal.returns
returns c = same_world
