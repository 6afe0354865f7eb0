use Rattle.std.proofs.Common.{ap, ◌∙◌}
use Rattle.mg_shard.specs.Documents.{docs_in, docs_of}
use Rattle.mg_shard.proofs.Shown.{docs-kept_documents}
use Rattle.mg_shard.proofs.shard.Shard.runs.Goals as goal

pub returns : goal.returns
returns c =
    ap docs_in (c.in_ok-runs.ensures ∙ c.all.ensures.all) ∙ docs-kept_documents c.self.inside.documents c.all.ensures.ascends ∙ ap (λ v. docs_of v.documents) c.self.view_is
