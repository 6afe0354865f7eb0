use Rattle.mg_shard.proofs.Dealing.{no_documents}
use Rattle.mg_shard.proofs.laws.nothing_is_dealt.Goals as goal

pub returns : goal.returns
returns c = no_documents
