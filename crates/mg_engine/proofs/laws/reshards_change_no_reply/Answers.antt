use Rattle.mg_engine.proofs.Resharding.{no_other_reply}
use Rattle.mg_engine.proofs.laws.reshards_change_no_reply.Goals as goal

pub returns : goal.returns
returns c = no_other_reply
