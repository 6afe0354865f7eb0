-- What is answered: the response for each thing that is said, and for each answer of the database.
use Rattle.std.specs.Prelude.{◌≡◌, ℕ, Bool, false, ◌==◌, List, [], ◌∷◌, ◌++◌, ◌-◌, length, take, map, nat_le, codes, decimal, Option, Some, None, option_and_then, if◌then◌else◌}
use Rattle.http1.specs.Fields.{Header}
use Rattle.mg_value.specs.Value.{text, list, item, no_items, object, member, no_members}
use Rattle.mg_value.specs.View.{items_of}
use Rattle.mg_engine.specs.Bodies.{line_of}
use Rattle.mg_engine.specs.Commands as engine
use Rattle.mg_engine.specs.Commands.{refused}
use Rattle.mg_engine.specs.Refusals.{refusal_body}
use Rattle.mg_engine.specs.declared.refusal.Refusal.TheVariants.{MethodNotAllowed}
use Rattle.mg_wire.specs.declared.response.Response.{Response}
use Rattle.mg_wire.specs.declared.status.Status.{Status}
use Rattle.mg_wire.specs.declared.status.Status.TheVariants as Is
use Rattle.mg_wire.specs.Response.{listed}
use Rattle.mg_face.specs.declared.count.CountFault.{CountFault}
use Rattle.mg_face.specs.declared.count.CountFault.TheVariants as Count
use Rattle.mg_face.specs.declared.fault.Fault.{Fault}
use Rattle.mg_face.specs.declared.fault.Fault.TheVariants as Of
use Rattle.mg_face.specs.declared.parameter.Parameter.{Parameter}
use Rattle.mg_face.specs.declared.said.Clash.TheVariants as Clash
use Rattle.mg_face.specs.declared.said.Said.{Said}
use Rattle.mg_face.specs.Edit.{field_of}
use Rattle.mg_face.specs.Ids.{id_list}
use Rattle.mg_face.specs.Json.{text_at}
use Rattle.mg_face.specs.Parameters.{name_of}
use Rattle.mg_face.specs.Place.{Fraction}
use Rattle.mg_face.specs.Routes.{allowed}
use Rattle.mg_face.specs.Tag.{is_in_tags}

-- an answer: its status, its fields in order, and its body
pub record Answer : Type 0 where
  pub status : Status
  pub fields : List Header
  pub body : List ℕ

-- each answer has a JSON body
abbrev pub json_field : Header
json_field = (codes "content-type", codes "application/json")

-- an answer with no other field
abbrev pub json : Status → List ℕ → Answer
json status body = record { status = status; fields = json_field ∷ []; body = body }

-- ---- what is said at once

-- the names of the databases, of which there is one
abbrev pub databases : List ℕ → List ℕ
databases db = line_of (list (item (text db) no_items))

-- so many ids, the first of which has this number
abbrev pub ids_body : ℕ → ℕ → List ℕ
ids_body first count = line_of (object (member (codes "uuids") (list (items_of (map text (id_list first count)))) no_members))

-- why a number of ids is refused, in CouchDB's words
abbrev pub count_body : CountFault → List ℕ
count_body Count.NotPositive = codes "{\"error\":\"bad_request\",\"reason\":\"count must be a positive integer\"}\n"
count_body Count.TooLarge = codes "{\"error\":\"bad_request\",\"reason\":\"count parameter too large\"}\n"

-- the member that has the wrong shape, and what it has to be
abbrev pub wrong_body : Fault → List ℕ
wrong_body Of.Documents = codes "{\"error\":\"bad_request\",\"reason\":\"docs: an array of objects\"}\n"
wrong_body Of.NewEdits = codes "{\"error\":\"bad_request\",\"reason\":\"new_edits: true or false\"}\n"
wrong_body Of.Selector = codes "{\"error\":\"bad_request\",\"reason\":\"selector: an object\"}\n"
wrong_body Of.Limit = codes "{\"error\":\"bad_request\",\"reason\":\"limit: a whole number from 0 to 2147483647\"}\n"
wrong_body Of.Skip = codes "{\"error\":\"bad_request\",\"reason\":\"skip: a whole number from 0 to 2147483647\"}\n"
wrong_body Of.Bookmark = codes "{\"error\":\"bad_request\",\"reason\":\"bookmark: a string\"}\n"
wrong_body Of.Conflicts = codes "{\"error\":\"bad_request\",\"reason\":\"conflicts: true or false\"}\n"
wrong_body Of.Options = codes "{\"error\":\"bad_request\",\"reason\":\"options: a JSON object\"}\n"
wrong_body Of.Key = codes "{\"error\":\"bad_request\",\"reason\":\"key: a string\"}\n"
wrong_body Of.Keys = codes "{\"error\":\"bad_request\",\"reason\":\"keys: an array of strings\"}\n"
wrong_body Of.KeysAlone = codes "{\"error\":\"bad_request\",\"reason\":\"keys: with no other option than include_docs and inclusive_end\"}\n"
wrong_body Of.StartKey = codes "{\"error\":\"bad_request\",\"reason\":\"startkey: a string\"}\n"
wrong_body Of.EndKey = codes "{\"error\":\"bad_request\",\"reason\":\"endkey: a string\"}\n"
wrong_body Of.InclusiveEnd = codes "{\"error\":\"bad_request\",\"reason\":\"inclusive_end: true or false\"}\n"
wrong_body Of.Descending = codes "{\"error\":\"bad_request\",\"reason\":\"descending: true or false\"}\n"
wrong_body Of.IncludeDocuments = codes "{\"error\":\"bad_request\",\"reason\":\"include_docs: true or false\"}\n"

-- the refusal of a parameter, with its name
abbrev pub unanswered_body : Parameter → List ℕ
unanswered_body parameter =
    codes "{\"error\":\"bad_request\",\"reason\":\"" ++ name_of parameter ++ codes ": this server does not answer this parameter.\"}\n"

-- the refusal of a number that is not whole, with its place
abbrev pub not_whole_body : Option Fraction → List ℕ
not_whole_body None = codes "{\"error\":\"bad_request\",\"reason\":\"numbers are whole here: a number has a fraction, or more than 64 bits.\"}\n"
not_whole_body (Some f) =
    codes "{\"error\":\"bad_request\",\"reason\":\"numbers are whole here: " ++ f.number
    ++ codes " at line " ++ decimal f.line ++ codes " column " ++ decimal f.column ++ codes "\"}\n"

-- the status of an answer of the database; 500 for one that it does not give
abbrev pub status_of : ℕ → Status
status_of code =
    if code == 200 then Is.Ok
    else (if code == 201 then Is.Created
    else (if code == 400 then Is.BadRequest
    else (if code == 404 then Is.NotFound
    else (if code == 405 then Is.MethodNotAllowed
    else (if code == 413 then Is.ContentTooLarge
    else (if code == 503 then Is.ServiceUnavailable else Is.InternalServerError))))))

-- an answer of the database as it is
abbrev pub passed : engine.Answer → Answer
passed a = json (status_of a.status) a.body

-- the answer for each thing that is said; `db` is the name of the database
abbrev pub answer_of_said : List ℕ → Said → Answer
answer_of_said db Said.Welcome = json Is.Ok (codes "{\"couchdb\":\"Welcome\",\"version\":\"3.3.3\",\"vendor\":{\"name\":\"mango_server\",\"version\":\"1.0.0\"}}\n")
answer_of_said db Said.Up = json Is.Ok (codes "{\"status\":\"ok\"}\n")
answer_of_said db Said.Databases = json Is.Ok (databases db)
answer_of_said db (Said.Ids first count) =
    record { status = Is.Ok; fields = json_field ∷ (codes "cache-control", codes "no-cache") ∷ []; body = ids_body first count }
answer_of_said db (Said.BadCount fault) = json Is.BadRequest (count_body fault)
answer_of_said db Said.DatabaseExists =
    json Is.PreconditionFailed (codes "{\"error\":\"file_exists\",\"reason\":\"The database could not be created, the file already exists.\"}\n")
answer_of_said db Said.OneDatabase = json Is.Forbidden (codes "{\"error\":\"forbidden\",\"reason\":\"This server keeps one database.\"}\n")
answer_of_said db Said.Committed = json Is.Created (codes "{\"instance_start_time\":\"0\",\"ok\":true}\n")
answer_of_said db (Said.NotAllowed resource) = record {
  status = Is.MethodNotAllowed;
  fields = json_field ∷ (codes "allow", allowed resource) ∷ [];
  body = refusal_body MethodNotAllowed;
}
answer_of_said db (Said.Unanswered parameter) = json Is.BadRequest (unanswered_body parameter)
answer_of_said db (Said.Clashes Clash.Ids) =
    json Is.BadRequest (codes "{\"error\":\"bad_request\",\"reason\":\"_id: the document has another one than the path.\"}\n")
answer_of_said db (Said.Clashes Clash.Revisions) =
    json Is.BadRequest (codes "{\"error\":\"bad_request\",\"reason\":\"_rev: the document, rev and If-Match have different ones.\"}\n")
answer_of_said db Said.BadRevision = json Is.BadRequest (codes "{\"error\":\"bad_request\",\"reason\":\"Invalid rev format\"}\n")
answer_of_said db (Said.Wrong fault) = json Is.BadRequest (wrong_body fault)
answer_of_said db (Said.NotWhole found) = json Is.BadRequest (not_whole_body found)
answer_of_said db Said.Attached =
    json Is.BadRequest (codes "{\"error\":\"doc_validation\",\"reason\":\"_attachments: this server keeps no attachments.\"}\n")
answer_of_said db Said.NoDesign =
    json Is.Forbidden (codes "{\"error\":\"forbidden\",\"reason\":\"A design document is made by POST to _index.\"}\n")
answer_of_said db (Said.Refuses refusal) = passed (refused refusal)

-- ---- answers of the database

-- a text in double quotes: an entity tag (RFC 9110, section 8.8.3)
abbrev pub quoted : List ℕ → List ℕ
quoted s = 34 ∷ (s ++ 34 ∷ [])

-- the revision of the document that a body, which is a line, shows: its `_rev`
abbrev pub revision_in : List ℕ → Option (List ℕ)
revision_in body = text_at (codes "_rev") (take (length body - 1) body)

-- the field, unless its value is so long that the fields of a response might have no room for it
abbrev pub if_short : List ℕ → Header → List Header
if_short value field = if nat_le (length value) 2048 then field ∷ [] else []

-- the revision as `ETag`
abbrev pub tag_of : List ℕ → List Header
tag_of revision = if_short revision (codes "etag", quoted revision)

-- the answer with the revision as its `ETag`
abbrev pub tagged : Option (List ℕ) → Answer → Answer
tagged None a = a
tagged (Some revision) a = record a { fields = a.fields ++ tag_of revision }

-- a document that the client has: no content (RFC 9110, sections 13.1.2 and 15.4.5)
abbrev pub unmodified : List ℕ → Answer
unmodified revision = record { status = Is.NotModified; fields = json_field ∷ tag_of revision; body = [] }

-- the tag is one of these, if there are any
abbrev pub is_listed : List ℕ → Option (List ℕ) → Bool
is_listed tag None = false
is_listed tag (Some tags) = is_in_tags tag tags

-- the client says that it has the document at this revision
abbrev pub has_revision : List Header → List ℕ → Bool
has_revision fields revision = is_listed (quoted revision) (field_of (codes "if-none-match") fields)

-- an answer that shows a document at this revision
abbrev pub document_answer : List Header → Option (List ℕ) → Answer → Answer
document_answer fields None a = a
document_answer fields (Some revision) a = if has_revision fields revision then unmodified revision else tagged (Some revision) a

-- ---- responses

-- the response is this answer
pub record IsAnswered (a : Answer) (r : Response) : Type 0 where
  pub status : r.status ≡ a.status
  pub fields : listed r.fields ≡ a.fields
  pub body : r.body.items ≡ a.body

-- the response has the type of its body, and nothing else yet
pub record IsBegun (r : Response) : Type 0 where
  pub fields : listed r.fields ≡ json_field ∷ []

-- memory ran out, or the store is lost: a 503
abbrev pub IsLack : Response → Type 0
IsLack r = r.status ≡ Is.ServiceUnavailable
