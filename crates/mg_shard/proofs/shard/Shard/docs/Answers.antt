use Rattle.std.proofs.Common.{◌∙◌, ap}
use Rattle.mg_shard.specs.Documents.{docs_of, docs_in}
use Rattle.mg_shard.proofs.Shown.{docs-kept_documents}
use Rattle.mg_shard.proofs.shard.Shard.docs.Goals as goal

pub returns : goal.returns
returns c =
    c.over.ensures ∙ ap docs_in (c.iter.ensures ∙ c.all.ensures.all) ∙ docs-kept_documents c.self.inside.documents c.all.ensures.ascends ∙ ap (λ v. docs_of v.documents) c.self.view_is
