use Rattle.std.proofs.Common.{ap, ◌∙◌, Some, option_map}
use Rattle.mg_shard.specs.Index.{Index}
use Rattle.mg_shard.proofs.index_list.rows_there.Goals as goal

pub returns-in-Some : goal.returns-in-Some
returns-in-Some c = ap Some c.rows.ensures ∙ ap (option_map (λ (x : Index). x.1)) c.in-Some.ensures

pub returns-in-None : goal.returns-in-None
returns-in-None c = ap (option_map (λ (x : Index). x.1)) c.in-None.ensures
