-- A bulk of edits, after CouchDB's `_bulk_docs`: how its body is read, what it does, and what it answers.
use Rattle.std.specs.Prelude.{ℕ, suc, ◌+◌, ◌%◌, ◌^◌, List, [], ◌∷◌, ◌++◌, Bool, true, false, ◌&&◌, codes, filter, length, map, take, Option, Some, None, is_none, is_some, Result, Ok, Err, if◌then◌else◌}
use Rattle.std.specs.Fn.{iterate}
use Rattle.std.specs.Int.{to_be_bytes, w64}
use Rattle.std.specs.List.{enumerate_from}
use Rattle.hex.specs.Hex.{encode_lower}
use Rattle.mg_value.specs.Value.{Value, flag, text, list, object, Items, no_items, item, no_members, member, member_of}
use Rattle.mg_value.specs.Results.{◌>>=◌}
use Rattle.mg_revtree.specs.Revision.{Revision, revision_text}
use Rattle.mg_doc.specs.Document.{Edit, edit_of, is_object}
use Rattle.mg_doc.specs.declared.error.DocError.{DocError}
use Rattle.mg_doc.specs.declared.error.DocError.TheVariants as document_fault
use Rattle.mg_doc.specs.declared.error.EditRefusal.{EditRefusal}
use Rattle.mg_doc.specs.declared.error.EditRefusal.TheVariants.{Conflict, BadHistory}
use Rattle.mg_shard.specs.Edits.{id_in}
use Rattle.mg_engine.specs.declared.refusal.Refusal.{Refusal}
use Rattle.mg_engine.specs.declared.refusal.Refusal.TheVariants.{WrongShape, BadMember, BadId, BadRev, OutOfMemory}

-- ---- reading the body

-- whether each item is an object
abbrev pub are_objects : Items → Bool
are_objects no_items = true
are_objects (item v vs) = is_object v && are_objects vs

-- the documents of a bulk, and whether their edits are new
pub record Bulk : Type 0 where
  pub new_edits : Bool
  pub documents : Items

-- a bulk of these documents; `None` if one of them is not an object
abbrev pub of_objects : Bool → Items → Option Bulk
of_objects new_edits vs = if are_objects vs then Some (record { new_edits = new_edits; documents = vs }) else None

-- a bulk with the members `docs`, an array of objects, and `new_edits`, true or false; if `new_edits` is absent, edits are new. `None` for
-- any other values
abbrev pub shaped : Option Value → Option Value → Option Bulk
shaped (Some (list vs)) None = of_objects true vs
shaped (Some (list vs)) (Some (flag b)) = of_objects b vs
shaped docs new_edits = None

-- the bulk in a body; `None` if the body has the wrong shape
abbrev pub bulk_of : Value → Option Bulk
bulk_of v = shaped (member_of (codes "docs") v) (member_of (codes "new_edits") v)

-- the edits of the documents, in order, or the first fault of a document
abbrev pub edits_of : Bool → Items → Result (List Edit) DocError
edits_of new_edits no_items = Ok []
edits_of new_edits (item v vs) = edit_of new_edits v >>= (λ e. edits_of new_edits vs >>= (λ es. Ok (e ∷ es)))

-- a document's fault as a refusal of the whole bulk
abbrev pub refusal_of_document : DocError → Refusal
refusal_of_document document_fault.BadMember = BadMember
refusal_of_document document_fault.BadId = BadId
refusal_of_document document_fault.BadRev = BadRev
refusal_of_document document_fault.NoMemory = OutOfMemory

-- the edits of a bulk, in the order of its documents, and whether they are new
pub record BulkEdits : Type 0 where
  pub new_edits : Bool
  pub edits : List Edit

-- the edits, or the first fault as a refusal
abbrev pub edits_or_refusal : Bool → Result (List Edit) DocError → Result BulkEdits Refusal
edits_or_refusal new_edits (Ok es) = Ok (record { new_edits = new_edits; edits = es })
edits_or_refusal new_edits (Err e) = Err (refusal_of_document e)

-- the edits of a bulk, or why the bulk is refused: for its shape (`None`), or for the first fault of a document
abbrev pub edits_read : Option Bulk → Result BulkEdits Refusal
edits_read None = Err WrongShape
edits_read (Some b) = edits_or_refusal b.new_edits (edits_of b.new_edits b.documents)

-- the edits in the body of a bulk, or why the bulk is refused
abbrev pub bulk_read : Value → Result BulkEdits Refusal
bulk_read v = edits_read (bulk_of v)

-- ---- ids for documents without one

-- the number after n, modulo 2^64
abbrev pub number_after : ℕ → ℕ
number_after n = (n + 1) % 2 ^ 64

-- the k-th number after n
abbrev pub kth_after : ℕ → ℕ → ℕ
kth_after n k = iterate number_after k n

-- a number as an id: 16 zeros, then its 16 lowercase hexadecimal digits
abbrev pub number_text : ℕ → List ℕ
number_text n = codes "0000000000000000" ++ encode_lower (to_be_bytes w64 n)

-- an edit without an id gets this number as its id; an edit with an id stays as it is
abbrev pub with_number : ℕ → Edit → Edit
with_number n e = if is_some e.id then e else record e { id = Some (number_text n) }

-- how many of the edits have no id
abbrev pub count_without_id : List Edit → ℕ
count_without_id es = length (filter (λ e. is_none e.id) es)

-- the edit `p.1` at the position `p.0` (from 0) of `es`: the k-th edit without an id gets the k-th number after n; others stay as they are
abbrev pub numbered_at : ℕ → List Edit → ℕ × Edit → Edit
numbered_at n es p = with_number (kth_after n (count_without_id (take (suc p.0) es))) p.1

-- the edits, each with an id
abbrev pub numbered : ℕ → List Edit → List Edit
numbered n es = map (numbered_at n es) (enumerate_from 0 es)

-- the counter after the edits: it moves by one number for each edit without an id
abbrev pub counter_after : ℕ → List Edit → ℕ
counter_after n es = kth_after n (count_without_id es)

-- ---- the reply

-- `{"id":..,"ok":true,"rev":..}`
abbrev pub done_entry : List ℕ → Revision → Value
done_entry id r = object (member (codes "id") (text id) (member (codes "ok") (flag true) (member (codes "rev") (text (revision_text r)) no_members)))

-- `{"error":..,"id":..,"reason":..}`
abbrev pub refused_entry : List ℕ → List ℕ → List ℕ → Value
refused_entry error id reason = object (member (codes "error") (text error) (member (codes "id") (text id) (member (codes "reason") (text reason) no_members)))

-- the entry of an edit: an applied edit has one only if edits are new; a refused edit always has one
abbrev pub entry_of : Bool → List ℕ → Result Revision EditRefusal → Option Value
entry_of true id (Ok r) = Some (done_entry id r)
entry_of false id (Ok r) = None
entry_of new_edits id (Err Conflict) = Some (refused_entry (codes "conflict") id (codes "Document update conflict."))
entry_of new_edits id (Err BadHistory) = Some (refused_entry (codes "bad_history") id (codes "Revision history does not fit the document."))

-- an entry, if there is one, before others
abbrev pub entry_before : Option Value → Items → Items
entry_before None vs = vs
entry_before (Some v) vs = item v vs

-- the entries of the reply, in the order of the documents, from each edit and its outcome
abbrev pub entries_of : Bool → List Edit → List (Result Revision EditRefusal) → Items
entries_of new_edits (e ∷ es) (o ∷ os) = entry_before (entry_of new_edits (id_in e) o) (entries_of new_edits es os)
entries_of new_edits es os = no_items
