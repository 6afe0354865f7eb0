use Rattle.std.proofs.Common.{◌≡◌, ◌+◌, ◌-◌, ◌∙◌, ap, arith, length}
use Rattle.mg_shard.specs.Documents.{deleted_among, docs_in, docs_of}
use Rattle.mg_shard.proofs.Deleted.{served_and_deleted}
use Rattle.mg_shard.proofs.Shown.{docs-kept_documents}
use Rattle.mg_shard.proofs.shard.Shard.count_docs.Goals as goal

pub overflow_sub-result : goal.overflow_sub-result
overflow_sub-result c =
    let ds = c.self.inside.documents in
    let both : length (docs_in ds) + length (deleted_among ds) ≡ length ds = served_and_deleted ds in
    let all : c.len-all.result ≡ length ds = c.len-all.ensures ∙ ap length c.all.ensures.all in
    let deleted : c.len-deleted.result ≡ length (deleted_among ds) = c.len-deleted.ensures ∙ ap length c.deleted.ensures.deleted in
    omega (arith, both, all, deleted)

pub returns : goal.returns
returns c =
    let ds = c.self.inside.documents in
    let both : length (docs_in ds) + length (deleted_among ds) ≡ length ds = served_and_deleted ds in
    let all : c.len-all.result ≡ length ds = c.len-all.ensures ∙ ap length c.all.ensures.all in
    let deleted : c.len-deleted.result ≡ length (deleted_among ds) = c.len-deleted.ensures ∙ ap length c.deleted.ensures.deleted in
    let served : c.len-all.result - c.len-deleted.result ≡ length (docs_in ds) = omega (arith, both, all, deleted) in
    served ∙ ap length (docs-kept_documents ds c.all.ensures.ascends) ∙ ap (λ v. length (docs_of v.documents)) c.self.view_is
