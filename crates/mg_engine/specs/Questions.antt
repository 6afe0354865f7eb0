-- Reads that are not commands: what each question is answered, after the CouchDB 3.x API reference. docs/MIGRATE.md lists the differences from
-- CouchDB.
use Rattle.std.specs.Prelude.{ℕ, pos, List, Bool, true, false, codes, decimal, length, map, Option, Some, None, option_and_then, option_map, unwrap_or, Result, Ok, Err, if◌then◌else◌}
use Rattle.std.specs.FinMap as finite
use Rattle.mg_value.specs.Value.{Value, null, flag, whole, text, list, object, member, member_of, no_members}
use Rattle.mg_value.specs.View.{items_of}
use Rattle.mg_revtree.specs.History.{Leaf, Paths, winner_of}
use Rattle.mg_revtree.specs.Revision.{Revision}
use Rattle.mg_doc.specs.Conflicts.{leaf_text}
use Rattle.mg_doc.specs.Leaf.{leaf_form}
use Rattle.mg_doc.specs.Served.{served_form}
use Rattle.mg_shard.specs.Histories.{Histories, deleted_documents, served_documents}
use Rattle.mg_query.specs.Page.{Page, answer_of, candidates_of}
use Rattle.mg_query.specs.Query.{Query, query_of}
use Rattle.mg_query.specs.declared.error.QueryError.{QueryError}
use Rattle.mg_engine.specs.Commands.{Answer, ok_answer, refusal_of_query, refused, shown_or_deleted, shown_or_refused}
use Rattle.mg_engine.specs.Design.{design_answer}
use Rattle.mg_engine.specs.Listing.{Listing, offset_of, range_query}
use Rattle.mg_engine.specs.More.{leaf_asked, with_more, with_revisions_if}
use Rattle.mg_engine.specs.World.{World}
use Rattle.mg_engine.specs.declared.question.More.{More}
use Rattle.mg_engine.specs.declared.refusal.Refusal.TheVariants.{Missing}

-- a question: what the database is; for `leaf`, the leaf of a document by the document's id and a revision, the latest one and the path of its
-- revision if they are asked for; for `winner`, the served document of an id with what is asked for beside it; for `keys`, the rows of these ids, with the documents if they are asked for; for `range`, the rows of a range of ids; for
-- `design`, the design document of this name
pub data Question : Type 0 where
  database : Question
  leaf : List ℕ → Revision → Bool → Bool → Question
  winner : List ℕ → More → Question
  keys : List (List ℕ) → Bool → Question
  range : Listing → Question
  design : List ℕ → Question

-- ---- `GET` of a database

-- how many documents are not deleted
abbrev pub doc_count : Histories → ℕ
doc_count hs = length (served_documents hs)

-- how many documents are deleted
abbrev pub doc_del_count : Histories → ℕ
doc_del_count hs = length (deleted_documents hs)

-- `cluster`: one copy of one range of ids, which one node reads and writes
abbrev pub cluster_value : Value
cluster_value =
    object (member (codes "n") (whole (pos 1)) (member (codes "q") (whole (pos 1)) (member (codes "r") (whole (pos 1)) (member (codes "w") (whole (pos 1)) no_members))))

-- `sizes`: not measured
abbrev pub sizes_value : Value
sizes_value = object (member (codes "active") (whole (pos 0)) (member (codes "external") (whole (pos 0)) (member (codes "file") (whole (pos 0)) no_members)))

-- what a database of this name is, with this many documents that are not deleted, deleted ones, and commits; the other members are the same for
-- every database here
abbrev pub database_of : List ℕ → ℕ → ℕ → ℕ → Value
database_of name docs deleted commits = object (
    member (codes "cluster") cluster_value (
    member (codes "compact_running") (flag false) (
    member (codes "db_name") (text name) (
    member (codes "disk_format_version") (whole (pos 1)) (
    member (codes "doc_count") (whole (pos docs)) (
    member (codes "doc_del_count") (whole (pos deleted)) (
    member (codes "instance_start_time") (text (codes "0")) (
    member (codes "props") (object no_members) (
    member (codes "purge_seq") (text (codes "0")) (
    member (codes "sizes") sizes_value (
    member (codes "update_seq") (text (decimal commits)) no_members)))))))))))

-- what the database is after this many commits
abbrev pub database_value : World → ℕ → Value
database_value w commits = database_of w.name (doc_count w.docs) (doc_del_count w.docs) commits

-- ---- `GET` of a document with `rev`

-- the answer with this document; `missing` if there is none
abbrev pub shown_or_missing : Option Value → Answer
shown_or_missing (Some v) = ok_answer v
shown_or_missing None = refused Missing

-- the answer with the leaf of this revision, or with the latest one: the winner or another leaf, deleted or not, and no other revision; `missing`
-- if there is no such leaf, since no other revision has a body, or if there is no such document
abbrev pub leaf_answer : List ℕ → Revision → Bool → Bool → Option Paths → Answer
leaf_answer id r latest path (Some h) = shown_or_missing (option_map (λ l. with_revisions_if path h l.rev (leaf_form id l)) (leaf_asked latest h r))
leaf_answer id r latest path None = refused Missing

-- ---- `GET` of a document with `revs`, `revs_info` or `deleted_conflicts`

-- the document that is served for a winner, with what is asked for beside it; `None` if the winner is deleted
abbrev pub winner_shown : More → List ℕ → Paths → Leaf → Option Value
winner_shown more id h l = if l.deleted then None else Some (with_more more h l.rev (served_form id l))

-- the answer with the winner; `deleted` if the document has a history and is not served, `missing` if it has no history
abbrev pub winner_answer : List ℕ → More → Option Paths → Answer
winner_answer id more (Some h) = shown_or_deleted (option_and_then (winner_shown more id h) (winner_of h))
winner_answer id more None = refused Missing

-- ---- `_all_docs` with `keys`

-- the row of an id that has no document
abbrev pub absent_row : List ℕ → Value
absent_row id = object (member (codes "error") (text (codes "not_found")) (member (codes "key") (text id) no_members))

-- a row of an id, with this value, and with this document if documents are asked for
abbrev pub key_row : Bool → Value → Value → Value → Value
key_row true id v document = object (member (codes "doc") document (member (codes "id") id (member (codes "key") id (member (codes "value") v no_members))))
key_row false id v document = object (member (codes "id") id (member (codes "key") id (member (codes "value") v no_members)))

-- `{"rev":..}`, and `"deleted":true` if the revision deletes the document
abbrev pub revision_value : Leaf → Value
revision_value l =
    if l.deleted then object (member (codes "deleted") (flag true) (member (codes "rev") (leaf_text l) no_members))
    else object (member (codes "rev") (leaf_text l) no_members)

-- the document of a row: null if it is deleted
abbrev pub row_document : List ℕ → Leaf → Value
row_document id l = if l.deleted then null else served_form id l

-- the row of an id with this winner
abbrev pub winner_row : Bool → List ℕ → Option Leaf → Value
winner_row documents id (Some l) = key_row documents (text id) (revision_value l) (row_document id l)
winner_row documents id None = absent_row id

-- the row of an id with this history
abbrev pub row_of_key : Bool → List ℕ → Option Paths → Value
row_of_key documents id (Some h) = winner_row documents id (winner_of h)
row_of_key documents id None = absent_row id

-- `{"offset":..,"rows":[..],"total_rows":..}`: these rows, how many documents come before them, and how many there are that are not deleted
abbrev pub rows_value : ℕ → ℕ → List Value → Value
rows_value offset total rows =
    object (member (codes "offset") (whole (pos offset)) (member (codes "rows") (list (items_of rows)) (member (codes "total_rows") (whole (pos total)) no_members)))

-- the rows of these ids, in their order
abbrev pub keys_value : Histories → Bool → List (List ℕ) → Value
keys_value hs documents ids = rows_value 0 (doc_count hs) (map (λ id. row_of_key documents id (finite.get hs id)) ids)

-- ---- `_all_docs` by a range of ids

-- a member of a document; null if it is absent
abbrev pub member_or_null : List ℕ → Value → Value
member_or_null name v = unwrap_or (member_of name v) null

-- the row of a document that a query shows, with the document if it is asked for
abbrev pub listed_row : Bool → Value → Value
listed_row documents v = key_row documents (member_or_null (codes "_id") v) (object (member (codes "rev") (member_or_null (codes "_rev") v) no_members)) v

-- the rows of a page of a range
abbrev pub range_value : Histories → Listing → Page → Value
range_value hs l p = rows_value (offset_of hs l) (doc_count hs) (map (listed_row l.documents) p.docs)

-- the answer with the rows of a range whose documents a query finds
abbrev pub range_found : World → Listing → Result Query QueryError → Answer
range_found w l (Ok q) = shown_or_refused (range_value w.docs l) (answer_of w.indexes q (candidates_of w.docs))
range_found w l (Err e) = refused (refusal_of_query e)

-- the answer with the rows of a range
abbrev pub range_answer : World → Listing → Answer
range_answer w l = range_found w l (query_of (range_query l))

-- ---- all questions

-- what a question is answered in the world that this many commits leave
abbrev pub answer_to : World → ℕ → Question → Answer
answer_to w commits database = ok_answer (database_value w commits)
answer_to w commits (leaf id r latest path) = leaf_answer id r latest path (finite.get w.docs id)
answer_to w commits (winner id more) = winner_answer id more (finite.get w.docs id)
answer_to w commits (keys ids documents) = ok_answer (keys_value w.docs documents ids)
answer_to w commits (range l) = range_answer w l
answer_to w commits (design ddoc) = design_answer ddoc w.indexes
