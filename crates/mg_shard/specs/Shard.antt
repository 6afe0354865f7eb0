-- What contracts see of a shard.
use Rattle.std.specs.Prelude.{ℕ, List, Option, All, Contains, map, option_map, refl}
use Rattle.std.specs.Arc.{arc_value}
use Rattle.std.specs.Coded.{Coded, code_by, coded×, coded_ℕ, coded_list, coded_option}
use Rattle.std.specs.FinMap as finite
use Rattle.std.specs.declared.alloc.Global.{Global}
use Rattle.std.specs.declared.sync.Arc.{Arc}
use Rattle.mg_value.specs.Code.{value_code}
use Rattle.mg_revtree.specs.Tree.{tree_code}
use Rattle.mg_collate.specs.Row.{RowValue}
use Rattle.mg_index.specs.Catalog.{definition_at}
use Rattle.mg_index.specs.Definition.{IndexDefinition, definition_code}
use Rattle.mg_shard.specs.Documents.{KeptDocuments, docs_of}
use Rattle.mg_shard.specs.Rows.{rows_of}

-- what a shard holds: its documents, and the definitions of its indexes in the order of a catalog. The rows of an index are left out,
-- since they follow from its definition and the documents
pub record ShardView : Type 0 where
  pub documents : KeptDocuments
  pub definitions : List IndexDefinition

-- how the logic stores documents
abbrev pub documents_code : Coded KeptDocuments
documents_code = finite.code (coded_list coded_ℕ) (coded× tree_code (coded_option value_code))

-- how the logic stores what a shard holds
abbrev pub shard_code : Coded ShardView
shard_code =
    code_by (KeptDocuments × List IndexDefinition) (coded× documents_code (coded_list definition_code))
    (λ s. (s.documents, s.definitions)) (λ p. record { documents = p.0; definitions = p.1 }) (λ _. refl)

-- the rows of the index of this design document and name, if there is one
abbrev pub rows_at : List ℕ → List ℕ → ShardView → Option (List RowValue)
rows_at ddoc name s = option_map (λ d. rows_of d.columns (docs_of s.documents)) (definition_at ddoc name s.definitions)

-- what the shards behind these `Arc`s hold
abbrev pub shards_view : List (Arc ShardView Global) → List ShardView
shards_view shards = map arc_value shards

-- each shard has each of these definitions, and may have others
abbrev pub HaveIndexes : List IndexDefinition → List ShardView → Type 0
HaveIndexes ds shards = All (λ s. All (Contains s.definitions) ds) shards
