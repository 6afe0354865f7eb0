use Rattle.std.proofs.Common.{ap, ◌∙◌, option_and_then, option_map}
use Rattle.mg_shard.specs.Documents.{KeptDocument, form_of, kept_of}
use Rattle.mg_shard.proofs.Shown.{get-kept_documents}
use Rattle.mg_shard.proofs.index_list.form_at.Goals as goal

pub returns-in-Some : goal.returns-in-Some
returns-in-Some c =
    c.written.ensures ∙ ap form_of c.get-in-Some.ensures ∙ ap (option_and_then (λ (d : KeptDocument). d.1)) (ap (option_map kept_of) c.in-Some.ensures ∙ get-kept_documents c.args.id.now c.args.documents.now)

pub returns-in-None : goal.returns-in-None
returns-in-None c = ap (option_and_then (λ (d : KeptDocument). d.1)) (ap (option_map kept_of) c.in-None.ensures ∙ get-kept_documents c.args.id.now c.args.documents.now)
