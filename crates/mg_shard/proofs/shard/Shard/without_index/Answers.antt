use Rattle.std.proofs.Common.{◌≡◌, List, not, sym, ap, ◌∙◌, subst}
use Rattle.std.specs.List.{filter}
use Rattle.mg_index.specs.Catalog.{is_named, without_definition}
use Rattle.mg_shard.specs.Documents.{kept_documents}
use Rattle.mg_shard.specs.Index.{AreIndexes, Index, definitions_of}
use Rattle.mg_shard.specs.Shard.{ShardView}
use Rattle.mg_shard.specs.declared.document.Document.{Document}
use Rattle.mg_shard.proofs.Catalogued.{definitions-without, without_index_sound}
use Rattle.mg_shard.proofs.shard.Shard.without_index.Goals as goal

pub invariant_of-result : goal.invariant_of-result
invariant_of-result c =
    let ds = kept_documents c.self.inside.documents in
    let xs = c.self.inside.indexes in
    let ddoc = c.args.ddoc.now in
    let name = c.args.name.now in
    let seen : c.in_ok-indexes.indexes ≡ filter (λ x. not (is_named ddoc name x.0)) xs =
    c.in_ok-indexes.ensures in
    subst (λ (documents : List Document). AreIndexes (kept_documents documents) c.in_ok-indexes.indexes) (sym c.in_ok-documents.ensures)
    (subst (λ (ys : List Index). AreIndexes ds ys) (sym seen) (without_index_sound ds ddoc name xs c.self.invariant))

pub returns : goal.returns
returns c =
    let xs = c.self.inside.indexes in
    let ddoc = c.args.ddoc.now in
    let name = c.args.name.now in
    let seen : c.in_ok-indexes.indexes ≡ filter (λ x. not (is_named ddoc name x.0)) xs =
    c.in_ok-indexes.ensures in
    let documents : kept_documents c.in_ok-documents.documents ≡ c.args.self.now.documents = ap kept_documents c.in_ok-documents.ensures ∙ ap (λ (v : ShardView). v.documents) c.self.view_is in
    let definitions : definitions_of c.in_ok-indexes.indexes ≡ without_definition ddoc name c.args.self.now.definitions =
    ap definitions_of seen ∙ definitions-without ddoc name xs c.self.invariant.catalog ∙ ap (λ (v : ShardView). without_definition ddoc name v.definitions) c.self.view_is in
    λ i. record { documents = documents i; definitions = definitions i }
