-- How a document of a bulk is read, after CouchDB's `_bulk_docs`: its own members, its id, its mark and its path.
use Rattle.std.specs.Prelude.{◌≡◌, ℕ, pos, List, [], ◌∷◌, Bool, true, false, not, ◌||◌, ◌==◌, nat_le, codes, Option, Some, None, option_map, option_and_then, Result, Ok, Err, if◌then◌else◌, ok_or}
use Rattle.std.specs.List.{list_all, list_any}
use Rattle.std.specs.Str.{bytes_eq}
use Rattle.mg_value.specs.Value.{Value, flag, whole, text, list, object, Items, no_items, item, Members, no_members, member, get_member, member_list}
use Rattle.mg_value.specs.Results.{◌>>=◌}
use Rattle.mg_revtree.specs.Revision.{Revision, revision_of, run_of}
use Rattle.mg_revtree.specs.History.{newest_of}
use Rattle.mg_revtree.specs.declared.error.RevError.{RevError}
use Rattle.mg_revtree.specs.declared.error.RevError.TheVariants.{Bad, NoMemory as rev_refused}
use Rattle.mg_doc.specs.declared.change.Change.{Change}
use Rattle.mg_doc.specs.declared.change.Change.TheVariants.{New, Replica}
use Rattle.mg_doc.specs.declared.error.DocError.{DocError}
use Rattle.mg_doc.specs.declared.error.DocError.TheVariants.{BadMember, BadId, BadRev, NoMemory}

-- what a document of a bulk asks for: its id, if it has one; its change, which is a new revision (over the named one, if
-- there is one) or the path of a replica, newest first; whether it is a deletion; and its body
pub record Edit : Type 0 where
  pub id : Option (List ℕ)
  pub change : Change
  pub deleted : Bool
  pub body : Value

-- ---- members

-- whether a name is reserved: it begins with an underscore
abbrev pub is_reserved : List ℕ → Bool
is_reserved [] = false
is_reserved (b ∷ s) = b == 95

-- whether a reserved name is one that a document may have
abbrev pub is_special : List ℕ → Bool
is_special k =
    list_any (bytes_eq k)
    (codes "_id" ∷ codes "_rev" ∷ codes "_revisions" ∷ codes "_deleted" ∷ codes "_conflicts" ∷ codes "_deleted_conflicts" ∷ codes "_revs_info" ∷ codes "_local_seq" ∷ [])

-- whether each reserved name is one that a document may have
abbrev pub has_known_names : Members → Bool
has_known_names ms = list_all (λ m. not (is_reserved m.0) || is_special m.0) (member_list ms)

-- the body's members: those whose names are not reserved
abbrev pub own_members : Members → Members
own_members no_members = no_members
own_members (member k v ms) = if is_reserved k then own_members ms else member k v (own_members ms)

-- ---- the mark, the id and the path; `None` is a fault

-- `_deleted`: true or false; false if it is absent
abbrev pub mark_of : Option Value → Option Bool
mark_of None = Some false
mark_of (Some (flag b)) = Some b
mark_of (Some v) = None

-- whether a text may be an id: it is not empty and does not begin with an underscore
abbrev pub is_document_id : List ℕ → Bool
is_document_id [] = false
is_document_id (b ∷ s) = not (b == 95)

-- `_id`: a text that may be an id; `Some None` if it is absent
abbrev pub id_of : Option Value → Option (Option (List ℕ))
id_of None = Some None
id_of (Some (text s)) = if is_document_id s then Some (Some s) else None
id_of (Some v) = None

-- `_rev`: the text of a revision; `Some None` if it is absent
abbrev pub rev_of : Option Value → Option (Option Revision)
rev_of None = Some None
rev_of (Some (text s)) = option_map Some (revision_of s)
rev_of (Some v) = None

-- the position and the id of the revision are valid: alone, it is a path that a replica may give
abbrev pub IsRevision : Revision → Type 0
IsRevision r = run_of r.0 (r.1 ∷ []) ≡ Some (r ∷ [])

-- the ids of a path, each a text
abbrev pub path_ids : Items → Option (List (List ℕ))
path_ids no_items = Some []
path_ids (item (text s) vs) = option_map (λ ids. s ∷ ids) (path_ids vs)
path_ids (item v vs) = None

-- the path that `start`, a number from 1 to 4,294,967,295, and `ids`, an array of 1 to `start` ids, give; `None` for any other values
abbrev pub run_at : Option Value → Option Value → Option (List Revision)
run_at (Some (whole (pos start))) (Some (list ids)) = if nat_le start 4294967295 then option_and_then (run_of start) (path_ids ids) else None
run_at start ids = None

-- `_revisions`: `{"start":N,"ids":[..]}`; `Some None` if it is absent
abbrev pub revisions_of : Option Value → Option (Option (List Revision))
revisions_of None = Some None
revisions_of (Some (object ms)) = option_map Some (run_at (get_member (codes "start") ms) (get_member (codes "ids") ms))
revisions_of (Some v) = None

-- the revision that a new edit names: the newest of `_revisions`; without `_revisions`, the one of `_rev`, if it is there
abbrev pub named_by : Option Revision → Option (List Revision) → Option Revision
named_by rev None = rev
named_by rev (Some run) = newest_of run

-- the path that a replica gives: `_revisions`; without `_revisions`, that of `_rev` alone; a replica that gives neither is at fault
abbrev pub path_by : Option Revision → Option (List Revision) → Option (List Revision)
path_by rev (Some run) = Some run
path_by rev None = option_map (λ r. r ∷ []) rev

-- the change that a document asks for; `None` if a replica gives no path
abbrev pub change_by : Bool → Option Revision → Option (List Revision) → Option Change
change_by new_edit rev run = if new_edit then Some (New (named_by rev run)) else option_map Replica (path_by rev run)

-- the change that `_rev` and `_revisions` ask for; `None` if either is there and malformed, or if a replica gives neither
abbrev pub change_given : Bool → Members → Option Change
change_given new_edit ms =
    option_and_then (λ rev. option_and_then (change_by new_edit rev) (revisions_of (get_member (codes "_revisions") ms)))
    (rev_of (get_member (codes "_rev") ms))

-- ---- a document, or its first fault: a bad member, a bad id, a bad revision, in this order

-- whether the document is a deletion; or `BadMember`, for a reserved name that it may not have or a bad `_deleted`
abbrev pub mark_read : Members → Result Bool DocError
mark_read ms = if has_known_names ms then ok_or (mark_of (get_member (codes "_deleted") ms)) BadMember else Err BadMember

-- the edit that the members ask for, or the first fault
abbrev pub members_read : Bool → Members → Result Edit DocError
members_read new_edit ms =
    mark_read ms >>= (λ deleted.
    ok_or (id_of (get_member (codes "_id") ms)) BadId >>= (λ id.
    ok_or (change_given new_edit ms) BadRev >>= (λ change.
    Ok (record { id = id; change = change; deleted = deleted; body = object (own_members ms) }))))

-- the edit that a value asks for; `BadMember` if the value is not an object
abbrev pub edit_of : Bool → Value → Result Edit DocError
edit_of new_edit (object ms) = members_read new_edit ms
edit_of new_edit v = Err BadMember

-- ---- where memory may be refused

-- a reading gives what the definition says, unless an allocation failed
abbrev pub ReadsAs : {A : Type 0} → Result A DocError → Result A DocError → Type 0
ReadsAs said (Ok a) = said ≡ Ok a
ReadsAs said (Err NoMemory) = Unit {0}
ReadsAs said (Err BadMember) = said ≡ Err BadMember
ReadsAs said (Err BadId) = said ≡ Err BadId
ReadsAs said (Err BadRev) = said ≡ Err BadRev

-- the error of a document for an error of its revision
abbrev pub fault_of_rev : RevError → DocError
fault_of_rev Bad = BadRev
fault_of_rev rev_refused = NoMemory

-- whether a value is an object
abbrev pub is_object : Value → Bool
is_object (object ms) = true
is_object v = false
