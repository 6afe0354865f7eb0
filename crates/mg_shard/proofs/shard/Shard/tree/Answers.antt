use Rattle.std.proofs.Common.{ap, option_map}
use Rattle.mg_shard.specs.Documents.{KeptDocument}
use Rattle.mg_shard.proofs.shard.Shard.tree.Goals as goal

pub returns-in-Some : goal.returns-in-Some
returns-in-Some c = ap (option_map (λ (d : KeptDocument). d.0)) c.in-Some.ensures.kept

pub returns-in-None : goal.returns-in-None
returns-in-None c = ap (option_map (λ (d : KeptDocument). d.0)) c.in-None.ensures.kept
