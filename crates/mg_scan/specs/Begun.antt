-- For private clauses: what a search has to read in a shard when it begins.
use Rattle.std.specs.Prelude.{◌≡◌, ℕ, List, Option, Some, None, drop, map}
use Rattle.std.specs.FinMap.{entries}
use Rattle.mg_index.specs.Definition.{Steps}
use Rattle.mg_scan.specs.Found.{target_columns}
use Rattle.mg_scan.specs.Way.{begin_at}
use Rattle.mg_scan.specs.Walked.{id_row}
use Rattle.mg_scan.specs.declared.unread.Unread.{Unread}
use Rattle.mg_scan.specs.declared.unread.Unread.TheVariants as unread
use Rattle.mg_scan.specs.declared.search.Search.{Search}
use Rattle.mg_shard.specs.Documents.{KeptDocuments, docs_of, form_at, kept_entry}
use Rattle.mg_shard.specs.Own.{HasOwnId, id_columns}
use Rattle.mg_shard.specs.Rows.{rows_of}
use Rattle.mg_shard.specs.Shard.{ShardView}
use Rattle.mg_pages.specs.Reading.{beyond}
use Rattle.mg_shard.specs.declared.document.Document.{Document}
use Rattle.mg_value.specs.Value.{Value}

-- `documents` are all that the shard keeps from where the search begins on; if a form has an `_id`, that is its document's id
pub record AreBegun (s : Search) (ds : KeptDocuments) (documents : List Document) : Type 0 where
  pub own : (id : List ℕ) (form : Value) → form_at ds id ≡ Some form → HasOwnId id form
  pub begun : map kept_entry documents ≡ beyond s.direction (λ e. begin_at s (id_row e.0)) (entries ds)

-- the `Unread` is all that an index of these columns has from where the search begins on; `Nothing` if there is no such index (`None`)
abbrev pub IsBegunIn : Option (List Steps) → Search → ShardView → Unread → Type 0
IsBegunIn at s shard (unread.Rows rows) = (columns : List Steps) × (at ≡ Some columns) × (rows ≡ beyond s.direction (begin_at s) (rows_of columns (docs_of shard.documents)))
IsBegunIn at s shard (unread.Documents documents) = (at ≡ Some id_columns) × AreBegun s shard.documents documents
IsBegunIn at s shard unread.Nothing = at ≡ None

-- the `Unread` is all that the search's target has in the shard from where the search begins on; `Nothing` if the shard lacks the target
abbrev pub IsBegun : Search → ShardView → Unread → Type 0
IsBegun s shard = IsBegunIn (target_columns s.target shard.definitions) s shard

-- l is what an `Unread` has after its first n rows: for documents, n is 0 and all are left; `Nothing` stays `Nothing` for any n
abbrev pub IsUnreadAfter : ℕ → Unread → Unread → Type 0
IsUnreadAfter n (unread.Rows rows) l = l ≡ unread.Rows (drop n rows)
IsUnreadAfter n (unread.Documents documents) l = (n ≡ 0) × (l ≡ unread.Documents documents)
IsUnreadAfter n unread.Nothing l = l ≡ unread.Nothing
