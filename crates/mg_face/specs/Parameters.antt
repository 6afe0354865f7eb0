-- The parameters of a query (the URL Standard, section 5) that change a meaning in CouchDB: those that ask for more of a document, and those that
-- this server does not answer.
use Rattle.std.specs.Prelude.{ℕ, Bool, true, false, ◌&&◌, ◌||◌, List, [], ◌∷◌, bytes_eq, codes, Option, Some, None, if◌then◌else◌}
use Rattle.std.specs.List.{list_any}
use Rattle.std.specs.Str.Lossy.{utf8_lossy}
use Rattle.form_urlencoded.specs.Form.{decode, raw_pairs}
use Rattle.mg_face.specs.declared.action.Action.{Action}
use Rattle.mg_face.specs.declared.action.Action.TheVariants as Does
use Rattle.mg_face.specs.declared.parameter.Parameter.{Parameter}
use Rattle.mg_face.specs.declared.parameter.Parameter.TheVariants as Is

-- ---- those that ask for more

-- a name and a value decode to this name and this value
abbrev pub gives : List ℕ → List ℕ → List ℕ × List ℕ → Bool
gives name value pair = bytes_eq (utf8_lossy (decode pair.0)) name && bytes_eq (utf8_lossy (decode pair.1)) value

-- some parameter of the query has this name and this value
abbrev pub has_pair : List ℕ → List ℕ → List ℕ → Bool
has_pair name value query = list_any (gives name value) (raw_pairs query)

-- some parameter of the query has this name and the value `true`; with any other value it asks for nothing, as in CouchDB
abbrev pub asks_flag : List ℕ → List ℕ → Bool
asks_flag name query = has_pair name (codes "true") query

-- the edits were made elsewhere: `new_edits=false`; with any other value they are new, as in CouchDB
abbrev pub is_replica : List ℕ → Bool
is_replica query = has_pair (codes "new_edits") (codes "false") query

-- ---- those that are not answered

-- the table of their names
abbrev pub name_of : Parameter → List ℕ
name_of Is.Attachments = codes "attachments"
name_of Is.AttachmentEncoding = codes "att_encoding_info"
name_of Is.AttachmentsSince = codes "atts_since"
name_of Is.Batch = codes "batch"
name_of Is.DeletedConflicts = codes "deleted_conflicts"
name_of Is.Latest = codes "latest"
name_of Is.LocalSequence = codes "local_seq"
name_of Is.Meta = codes "meta"
name_of Is.NewEdits = codes "new_edits"
name_of Is.OpenRevisions = codes "open_revs"
name_of Is.Revision = codes "rev"
name_of Is.Revisions = codes "revs"
name_of Is.RevisionsInfo = codes "revs_info"
name_of Is.UpdateSequence = codes "update_seq"

-- the parameter, if a name is its name
abbrev pub if_named : List ℕ → Parameter → Option Parameter → Option Parameter
if_named name parameter other = if bytes_eq name (name_of parameter) then Some parameter else other

-- the parameter of a name
abbrev pub parameter_of : List ℕ → Option Parameter
parameter_of name =
    if_named name Is.Attachments
    (if_named name Is.AttachmentEncoding
    (if_named name Is.AttachmentsSince
    (if_named name Is.Batch
    (if_named name Is.DeletedConflicts
    (if_named name Is.Latest
    (if_named name Is.LocalSequence
    (if_named name Is.Meta
    (if_named name Is.NewEdits
    (if_named name Is.OpenRevisions
    (if_named name Is.Revision
    (if_named name Is.Revisions
    (if_named name Is.RevisionsInfo
    (if_named name Is.UpdateSequence None)))))))))))))

-- which revision is replaced
abbrev pub is_revision : Parameter → Bool
is_revision Is.Revision = true
is_revision parameter = false

-- whether the edit was made elsewhere
abbrev pub is_new_edits : Parameter → Bool
is_new_edits Is.NewEdits = true
is_new_edits parameter = false

-- which revision is shown, or what is shown beside it
abbrev pub is_of_read : Parameter → Bool
is_of_read Is.Revision = true
is_of_read Is.Latest = true
is_of_read Is.Revisions = true
is_of_read Is.RevisionsInfo = true
is_of_read Is.DeletedConflicts = true
is_of_read Is.Meta = true
is_of_read parameter = false

-- an action takes a parameter: a write of a document the revision that it is to replace and whether it was made elsewhere, a read what is shown
abbrev pub takes : Action → Parameter → Bool
takes Does.PostDocument parameter = is_new_edits parameter
takes Does.PutDocument parameter = is_revision parameter || is_new_edits parameter
takes Does.DeleteDocument parameter = is_revision parameter
takes Does.ReadDocument parameter = is_of_read parameter
takes action parameter = false

-- the value with which a parameter changes nothing
abbrev pub default_of : Parameter → List ℕ
default_of Is.NewEdits = codes "true"
default_of parameter = codes "false"

-- the parameter with this value, unless it changes nothing or the action takes it
abbrev pub unless_taken : Action → List ℕ → Option Parameter → Option Parameter
unless_taken action value None = None
unless_taken action value (Some parameter) =
    if bytes_eq value (default_of parameter) || takes action parameter then None else Some parameter

-- the parameter that a name and a value give, unless it changes nothing or the action takes it
abbrev pub unanswered : Action → List ℕ × List ℕ → Option Parameter
unanswered action pair = unless_taken action (utf8_lossy (decode pair.1)) (parameter_of (utf8_lossy (decode pair.0)))

-- the first of two
abbrev pub or_else : Option Parameter → Option Parameter → Option Parameter
or_else None other = other
or_else (Some parameter) other = Some parameter

-- the first of these pairs that is such a parameter
abbrev pub first_unanswered : Action → List (List ℕ × List ℕ) → Option Parameter
first_unanswered action [] = None
first_unanswered action (pair ∷ pairs) = or_else (unanswered action pair) (first_unanswered action pairs)

-- the first such parameter of a query
abbrev pub unanswered_in : Action → List ℕ → Option Parameter
unanswered_in action query = first_unanswered action (raw_pairs query)
