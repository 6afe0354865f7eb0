use Rattle.std.proofs.Common.{◌∙◌, ap, map, sym}
use Rattle.std.specs.FinMap.{entries}
use Rattle.mg_shard.specs.Documents.{kept_entry}
use Rattle.mg_pages.specs.Reading.{beyond}
use Rattle.mg_shard.proofs.Shown.{entries-kept_documents}
use Rattle.mg_shard.proofs.Walks.{beyond-map}
use Rattle.mg_shard.proofs.shard.Shard.documents_beyond.Goals as goal

pub returns : goal.returns
returns g c = λ order same.
    let ds = c.self.inside.documents in
    let direction = c.args.direction in
    ap (map kept_entry) c.beyond.ensures ∙ beyond-map kept_entry _ order same direction c.all.result.now ∙ ap (λ es. beyond direction order (map kept_entry es)) c.all.ensures.all
    ∙ ap (beyond direction order) (sym (entries-kept_documents ds c.all.ensures.ascends) ∙ ap (λ v. entries v.documents) c.self.view_is)
