use Rattle.std.proofs.Common.{◌≡◌, ◌+◌, ◌-◌, ◌∙◌, ap, arith, length, map, sym}
use Rattle.std.specs.FinMap.{entries}
use Rattle.std.specs.List.{filter_map}
use Rattle.mg_shard.specs.Documents.{deleted_among, doc_entry, docs_in, kept_entry}
use Rattle.mg_pages.specs.Reading.{beyond}
use Rattle.mg_shard.proofs.Deleted.{deleted_beyond, served_beyond}
use Rattle.mg_shard.proofs.Shown.{entries-kept_documents}
use Rattle.mg_shard.proofs.shard.Shard.count_docs_beyond.Goals as goal

pub overflow_sub-result : goal.overflow_sub-result
overflow_sub-result g c =
    let ds = c.self.inside.documents in
    let direction = c.args.direction in
    let against = g.Q.Probe.against c.args.place.now in
    let both : length (docs_in (beyond direction against ds)) + length (beyond direction against (deleted_among ds)) ≡ length (beyond direction against ds) = deleted_beyond direction against ds in
    let all : c.count_beyond-all.result ≡ length (beyond direction against ds) = c.count_beyond-all.ensures ∙ ap (λ xs. length (beyond direction against xs)) c.all.ensures.all in
    let deleted : c.count_beyond-deleted.result ≡ length (beyond direction against (deleted_among ds)) = c.count_beyond-deleted.ensures ∙ ap (λ xs. length (beyond direction against xs)) c.deleted.ensures.deleted in
    omega (arith, both, all, deleted)

pub returns : goal.returns
returns g c = λ order same.
    let ds = c.self.inside.documents in
    let direction = c.args.direction in
    let against = g.Q.Probe.against c.args.place.now in
    let both : length (filter_map doc_entry (beyond direction order (map kept_entry ds))) + length (beyond direction against (deleted_among ds)) ≡ length (beyond direction against ds) = served_beyond direction against order same ds in
    let all : c.count_beyond-all.result ≡ length (beyond direction against ds) = c.count_beyond-all.ensures ∙ ap (λ xs. length (beyond direction against xs)) c.all.ensures.all in
    let deleted : c.count_beyond-deleted.result ≡ length (beyond direction against (deleted_among ds)) = c.count_beyond-deleted.ensures ∙ ap (λ xs. length (beyond direction against xs)) c.deleted.ensures.deleted in
    let served : c.count_beyond-all.result - c.count_beyond-deleted.result ≡ length (filter_map doc_entry (beyond direction order (map kept_entry ds))) = omega (arith, both, all, deleted) in
    served ∙ ap (λ es. length (filter_map doc_entry (beyond direction order es))) (sym (entries-kept_documents ds c.all.ensures.ascends) ∙ ap (λ v. entries v.documents) c.self.view_is)
