use Rattle.std.proofs.Common.{List, sym, subst, ◌∙◌}
use Rattle.std.specs.List.{AllByRecursion}
use Rattle.mg_index.specs.Catalog.{IsCatalog}
use Rattle.mg_index.specs.Definition.{IndexDefinition}
use Rattle.mg_shard.specs.Documents.{kept_documents}
use Rattle.mg_shard.specs.Index.{HasRows, Index, definitions_of}
use Rattle.mg_shard.specs.declared.document.Document.{Document}
use Rattle.mg_shard.proofs.new_shards.index_documents.Goals as goal

pub invariant_of-result : goal.invariant_of-result
invariant_of-result c = record {
  catalog = subst (λ (xs : List Index). IsCatalog (definitions_of xs)) (sym (c.in_ok-indexes.ensures ∙ c.deref.ensures.value))
      (subst (λ (ds : List IndexDefinition). IsCatalog ds) (sym c.in_ok-own.ensures.definitions) c.requires);
  rows = subst (λ (xs : List Index). AllByRecursion (HasRows (kept_documents c.in_ok-documents.documents)) xs) (sym (c.in_ok-indexes.ensures ∙ c.deref.ensures.value))
      (subst (λ (ds : List Document). AllByRecursion (HasRows (kept_documents ds)) c.in_ok-own.own.items) c.in_ok-share.ensures c.in_ok-own.ensures.rows);
}
