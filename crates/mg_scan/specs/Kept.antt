-- For private clauses: what is unread is of documents that the shard serves or keeps.
use Rattle.std.specs.Prelude.{◌≡◌, ⊤, ℕ, true, List, [], ◌∷◌, Option, Some, None, is_some}
use Rattle.std.specs.Coded.{Coded-set, Unit-prop, ×_prop, coded_bool, coded_option, coded×}
use Rattle.std.specs.FinMap.{get}
use Rattle.std.specs.List.{AllByRecursion}
use Rattle.std.specs.Option.{option_and_then}
use Rattle.mg_collate.specs.Row.{RowValue}
use Rattle.mg_revtree.specs.Tree.{tree_code}
use Rattle.mg_scan.specs.declared.unread.Unread.{Unread}
use Rattle.mg_scan.specs.declared.unread.Unread.TheVariants as unread
use Rattle.mg_shard.specs.Documents.{KeptDocuments, form_at, form_of, id_bytes, kept_of}
use Rattle.mg_shard.specs.Own.{id_columns}
use Rattle.mg_shard.specs.Rows.{row_key}
use Rattle.mg_shard.specs.Shard.{ShardView}
use Rattle.mg_shard.specs.declared.document.Document.{Document}
use Rattle.mg_value.specs.Code.{value_code}
use Rattle.mg_value.specs.Value.{item, no_items, text}

-- the documents are among those that a shard keeps
abbrev pub AreKept : KeptDocuments → List Document → Type 0
AreKept kept ds = AllByRecursion (λ d. get kept (id_bytes d) ≡ Some (kept_of d)) ds

-- a document is served under the id of each row, in a shard with these documents
abbrev pub AreServed : KeptDocuments → List RowValue → Type 0
AreServed ds rows = AllByRecursion (λ r. is_some (form_at ds r.1) ≡ true) rows

-- the rows that are unread are of documents that the shard serves; the documents are among those that it keeps
abbrev pub IsKept : ShardView → Unread → Type 0
IsKept shard (unread.Rows rows) = AreServed shard.documents rows
IsKept shard (unread.Documents ds) = AreKept shard.documents ds
IsKept shard unread.Nothing = ⊤

-- the document is one that is kept, and has a row in the index of all documents under this id, which is its own
abbrev pub IsRowAmong : KeptDocuments → Document → List ℕ → Type 0
IsRowAmong ds d id = (get ds (id_bytes d) ≡ Some (kept_of d)) × (Some (item (text id) no_items) ≡ option_and_then (row_key id_columns) (form_of d)) × (id ≡ id_bytes d)

-- the document is the one that the shard keeps under this id
abbrev pub IsLent : KeptDocuments → List ℕ → Option Document → Type 0
IsLent ds id None = ⊤
IsLent ds id (Some d) = get ds id ≡ Some (kept_of d)

-- ---- what is known of documents has at most one proof

AreServed-prop : (ds : KeptDocuments) (rows : List RowValue) → IsProp (AreServed ds rows)
AreServed-prop ds [] = Unit-prop
AreServed-prop ds (r ∷ rows) = ×_prop (Coded-set coded_bool (is_some (form_at ds r.1)) true) (AreServed-prop ds rows)

AreKept-prop : (kept : KeptDocuments) (ds : List Document) → IsProp (AreKept kept ds)
AreKept-prop kept [] = Unit-prop
AreKept-prop kept (d ∷ ds) = ×_prop (Coded-set (coded_option (coded× tree_code (coded_option value_code))) (get kept (id_bytes d)) (Some (kept_of d))) (AreKept-prop kept ds)

pub IsKept-prop : (shard : ShardView) (l : Unread) → IsProp (IsKept shard l)
IsKept-prop shard (unread.Rows rows) = AreServed-prop shard.documents rows
IsKept-prop shard (unread.Documents ds) = AreKept-prop shard.documents ds
IsKept-prop shard unread.Nothing = Unit-prop

pub IsLent-prop : (ds : KeptDocuments) (id : List ℕ) (o : Option Document) → IsProp (IsLent ds id o)
IsLent-prop ds id None = Unit-prop
IsLent-prop ds id (Some d) = Coded-set (coded_option (coded× tree_code (coded_option value_code))) (get ds id) (Some (kept_of d))
