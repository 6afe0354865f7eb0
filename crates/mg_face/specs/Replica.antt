-- An edit that was made elsewhere, as `new_edits=false` says of it, after CouchDB's replication: its bulk, and the entry that shows it.
use Rattle.std.specs.Prelude.{ℕ, ℤ, pos, Bool, true, false, List, codes, Option, Some, None, option_map, if◌then◌else◌}
use Rattle.mg_value.specs.Value.{Value, flag, whole, text, list, object, item, no_items, member, no_members, member_of, with_member}
use Rattle.mg_revtree.specs.Revision.{revision_text}
use Rattle.mg_face.specs.Json.{string_at}

-- the body of a bulk, whose edits are not new if they are a replica's
abbrev pub as_replica : Bool → Value → Value
as_replica replica v = if replica then with_member (codes "new_edits") (flag false) v else v

-- a bulk of this one document
abbrev pub bulk_with : Bool → Value → Value
bulk_with replica v = as_replica replica (object (member (codes "docs") (list (item v no_items)) no_members))

-- the first item of an array
abbrev pub first_item : Option Value → Option Value
first_item (Some (list (item v vs))) = Some v
first_item v = None

-- a position: a number from 0
abbrev pub position_of : ℤ → Option ℕ
position_of (pos n) = Some n
position_of z = None

-- the revision of an id, a text, at a position
abbrev pub revision_at : Option Value → Option Value → Option (List ℕ)
revision_at (Some (whole z)) (Some (text id)) = option_map (λ n. revision_text (n, id)) (position_of z)
revision_at position id = None

-- the newest revision of a path `{"start":N,"ids":[..]}`
abbrev pub newest_in : Value → Option (List ℕ)
newest_in v = revision_at (member_of (codes "start") v) (first_item (member_of (codes "ids") v))

-- the newest of the revisions that a document gives; without these, its `_rev`
abbrev pub newest_or_rev : Option Value → Value → Option (List ℕ)
newest_or_rev (Some revisions) v = newest_in revisions
newest_or_rev None v = string_at (codes "_rev") v

-- the revision of the edit that a replica's document is
abbrev pub revision_named : Value → Option (List ℕ)
revision_named v = newest_or_rev (member_of (codes "_revisions") v) v

-- `{"id":..,"ok":true,"rev":..}`
abbrev pub made_entry : List ℕ → List ℕ → Value
made_entry id revision =
    object (member (codes "id") (text id) (member (codes "ok") (flag true) (member (codes "rev") (text revision) no_members)))

-- the entry of these; `None` if either is missing
abbrev pub entry_with : Option (List ℕ) → Option (List ℕ) → Option Value
entry_with (Some id) (Some revision) = Some (made_entry id revision)
entry_with id revision = None

-- the entry of a replica's edit that is made; `None`: the document names no revision, and its bulk is refused
abbrev pub replica_entry : Value → Option Value
replica_entry v = entry_with (string_at (codes "_id") v) (revision_named v)
