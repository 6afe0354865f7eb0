-- What contracts see of the indexes of a shard.
use Rattle.std.specs.Prelude.{◌≡◌, ℕ, List, map}
use Rattle.std.proofs.lemmas.Cmp.{nat_list_cmp_total, on_total, then_total}
use Rattle.std.specs.Cmp.{IsTotalOrder}
use Rattle.std.specs.Cmp.Lexicographic.{slice_cmp}
use Rattle.std.specs.Coded.{Coded, coded×, coded_list}
use Rattle.std.specs.List.{AllByRecursion}
use Rattle.std.specs.Ordering.{nat_cmp, on, ordering_then, then_cmp}
use Rattle.std.specs.declared.cmp.Ordering.{Ordering}
use Rattle.mg_collate.specs.Row.{RowValue}
use Rattle.mg_index.specs.Catalog.{IsCatalog, definition_order}
use Rattle.mg_index.specs.Definition.{IndexDefinition, definition_code}
use Rattle.mg_pages.specs.Order.{IsProbe, probe_through}
use Rattle.mg_rows.specs.Code.{row_code}
use Rattle.mg_shard.specs.Documents.{KeptDocuments, docs_of}
use Rattle.mg_shard.specs.Rows.{rows_of}

-- an index: its definition and its rows
abbrev pub Index : Type 0
Index = IndexDefinition × List RowValue

-- how the logic stores an index
abbrev pub index_code : Coded Index
index_code = coded× definition_code (coded_list row_code)

-- the definitions of indexes
abbrev pub definitions_of : List Index → List IndexDefinition
definitions_of xs = map (λ x. x.0) xs

-- the index's rows are those of an index made from scratch of the served documents
abbrev pub HasRows : KeptDocuments → Index → Type 0
HasRows ds x = x.1 ≡ rows_of x.0.columns (docs_of ds)

-- each index has its rows, and the definitions are a catalog: in the order of design document and name, and no two have both in common
pub record AreIndexes (ds : KeptDocuments) (xs : List Index) : Type 0 where
  pub catalog : IsCatalog (definitions_of xs)
  pub rows : AllByRecursion (HasRows ds) xs

-- ---- the order of indexes: by design document, then name

-- the order of indexes is that of their definitions
abbrev pub index_order : Index → Index → Ordering
index_order x y = definition_order x.0 y.0

-- the order of a design document and a name against those of an index
abbrev pub name_against : List ℕ → List ℕ → Index → Ordering
name_against ddoc name x = ordering_then (slice_cmp nat_cmp ddoc x.0.ddoc) (slice_cmp nat_cmp name x.0.name)

-- the order of definitions is total
pub definition_order_total : IsTotalOrder definition_order
definition_order_total = then_total (on_total (λ (d : IndexDefinition). d.ddoc) nat_list_cmp_total) (on_total (λ (d : IndexDefinition). d.name) nat_list_cmp_total)

-- the order of indexes is total
pub index_order_total : IsTotalOrder index_order
index_order_total = on_total (λ (x : Index). x.0) definition_order_total

-- the order of pairs of a design document and a name
abbrev names_order : List ℕ × List ℕ → List ℕ × List ℕ → Ordering
names_order = then_cmp (on (λ p. p.0) (slice_cmp nat_cmp)) (on (λ p. p.1) (slice_cmp nat_cmp))

-- the order of these pairs is total
names_order_total : IsTotalOrder names_order
names_order_total = then_total (on_total (λ (p : List ℕ × List ℕ). p.0) nat_list_cmp_total) (on_total (λ (p : List ℕ × List ℕ). p.1) nat_list_cmp_total)

-- an index can be looked up by its design document and name
pub name_probes : (ddoc name : List ℕ) → IsProbe index_order (name_against ddoc name)
name_probes ddoc name = probe_through names_order_total (λ (x : Index). (x.0.ddoc, x.0.name)) (ddoc, name)
