use Rattle.std.proofs.Common.{◌∙◌, Some, ap}
use Rattle.mg_shard.proofs.shard.Shard.rows.Goals as goal

pub returns-in-Some : goal.returns-in-Some
returns-in-Some c = ap Some c.iter.ensures ∙ c.in-Some.ensures

pub returns-in-None : goal.returns-in-None
returns-in-None c = c.in-None.ensures
