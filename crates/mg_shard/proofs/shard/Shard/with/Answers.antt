use Rattle.std.proofs.Common.{◌≡◌, List, sym, ap, ◌∙◌, subst}
use Rattle.mg_index.specs.Catalog.{with_definition}
use Rattle.mg_pages.specs.Order.{inserted}
use Rattle.mg_shard.specs.Documents.{docs_of, kept_documents}
use Rattle.mg_shard.specs.Index.{AreIndexes, HasRows, Index, definitions_of, index_order}
use Rattle.mg_shard.specs.Rows.{rows_of}
use Rattle.mg_shard.specs.Shard.{ShardView}
use Rattle.mg_shard.specs.declared.document.Document.{Document}
use Rattle.mg_shard.proofs.Catalogued.{definitions-with, with_index_sound}
use Rattle.mg_shard.proofs.shard.Shard.with.Goals as goal

pub invariant_of-result : goal.invariant_of-result
invariant_of-result c =
    let ds = kept_documents c.self.inside.documents in
    let xs = c.self.inside.indexes in
    let index : Index = (c.args.definition, c.args.rows) in
    let seen : c.in_ok-indexes.indexes ≡ inserted index_order index xs =
    c.in_ok-indexes.ensures ∙ ap (λ (x : Index). inserted index_order x xs) c.in_ok-index.ensures in
    let has : HasRows ds index =
    c.requires ∙ ap (λ (v : ShardView). rows_of c.args.definition.columns (docs_of v.documents)) (sym c.self.view_is) in
    subst (λ (documents : List Document). AreIndexes (kept_documents documents) c.in_ok-indexes.indexes) (sym c.in_ok-documents.ensures)
    (subst (λ (ys : List Index). AreIndexes ds ys) (sym seen) (with_index_sound ds index xs has c.self.invariant))

pub returns : goal.returns
returns c =
    let xs = c.self.inside.indexes in
    let index : Index = (c.args.definition, c.args.rows) in
    let seen : c.in_ok-indexes.indexes ≡ inserted index_order index xs =
    c.in_ok-indexes.ensures ∙ ap (λ (x : Index). inserted index_order x xs) c.in_ok-index.ensures in
    let documents : kept_documents c.in_ok-documents.documents ≡ c.args.self.now.documents = ap kept_documents c.in_ok-documents.ensures ∙ ap (λ (v : ShardView). v.documents) c.self.view_is in
    let definitions : definitions_of c.in_ok-indexes.indexes ≡ with_definition c.args.definition c.args.self.now.definitions =
    ap definitions_of seen ∙ definitions-with index xs c.self.invariant.catalog ∙ ap (λ (v : ShardView). with_definition c.args.definition v.definitions) c.self.view_is in
    λ i. record { documents = documents i; definitions = definitions i }
