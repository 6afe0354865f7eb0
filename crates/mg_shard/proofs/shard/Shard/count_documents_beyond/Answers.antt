use Rattle.std.proofs.Common.{◌∙◌, ap, length, map, sym}
use Rattle.std.proofs.lemmas.List.{length-map}
use Rattle.std.specs.FinMap.{entries}
use Rattle.mg_shard.specs.Documents.{kept_entry}
use Rattle.mg_pages.specs.Reading.{beyond}
use Rattle.mg_shard.proofs.Shown.{entries-kept_documents}
use Rattle.mg_shard.proofs.Walks.{beyond-map}
use Rattle.mg_shard.proofs.shard.Shard.count_documents_beyond.Goals as goal

pub returns : goal.returns
returns g c = λ order same.
    let ds = c.self.inside.documents in
    let direction = c.args.direction in
    c.count_beyond.ensures ∙ sym (length-map _ kept_entry) ∙ ap length (beyond-map kept_entry _ order same direction c.all.result.now ∙ ap (λ es. beyond direction order (map kept_entry es)) c.all.ensures.all)
    ∙ ap (λ es. length (beyond direction order es)) (sym (entries-kept_documents ds c.all.ensures.ascends) ∙ ap (λ v. entries v.documents) c.self.view_is)
