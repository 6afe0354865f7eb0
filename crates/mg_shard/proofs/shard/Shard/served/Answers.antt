use Rattle.std.proofs.Common.{◌∙◌, ap, option_and_then}
use Rattle.mg_shard.specs.Documents.{KeptDocument}
use Rattle.mg_shard.proofs.shard.Shard.served.Goals as goal

pub returns-in-Some : goal.returns-in-Some
returns-in-Some c = c.form.ensures ∙ ap (option_and_then (λ (d : KeptDocument). d.1)) c.in-Some.ensures.kept

pub returns-in-None : goal.returns-in-None
returns-in-None c = ap (option_and_then (λ (d : KeptDocument). d.1)) c.in-None.ensures.kept
