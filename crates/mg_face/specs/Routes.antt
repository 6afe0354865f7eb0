-- What a path names, and what each method asks of it, after the CouchDB 3.x API reference.
use Rattle.std.specs.Prelude.{ℕ, Bool, true, false, ◌&&◌, ◌||◌, ◌==◌, List, [], ◌∷◌, ◌++◌, drop, length, filter, bytes_eq, codes, Option, Some, None, is_some, if◌then◌else◌}
use Rattle.std.specs.List.{slice_split}
use Rattle.percent_encoding.specs.Percent.{percent_decode}
use Rattle.mg_face.specs.declared.route.Resource.{Resource}
use Rattle.mg_face.specs.declared.route.Resource.TheVariants.{Root, Up, AllDatabases, Ids, Database, AllDocuments, FullCommit, BulkDocs, Find, Explain, Indexes, Index, DesignIndex, Placement, Design, Document, Nowhere}
use Rattle.mg_face.specs.declared.action.Verb.{Verb}
use Rattle.mg_face.specs.declared.action.Endpoint.TheVariants as Takes
use Rattle.mg_face.specs.declared.action.Action.{Action}
use Rattle.mg_face.specs.declared.action.Action.TheVariants as Does

-- ---- paths

-- the segments of a path, still percent-encoded; that of a target in absolute form begins with its scheme and its authority, which are none of them
-- (RFC 9112, section 3.2.2)
abbrev pub segments_of : List ℕ → List (List ℕ)
segments_of [] = []
segments_of (b ∷ rest) = if b == 47 then slice_split (λ c. c == 47) rest else drop 3 (slice_split (λ c. c == 47) (b ∷ rest))

-- the segment is of the server, not of a client: it begins with an underscore
abbrev pub is_reserved : List ℕ → Bool
is_reserved [] = false
is_reserved (b ∷ rest) = b == 95

-- `/`, `/_up`, `/_all_dbs`, `/_uuids`, `/{db}`
abbrev pub server_resource : List ℕ → Resource
server_resource segment =
    if length segment == 0 then Root
    else (if bytes_eq segment (codes "_up") then Up
    else (if bytes_eq segment (codes "_all_dbs") then AllDatabases
    else (if bytes_eq segment (codes "_uuids") then Ids
    else (if is_reserved segment then Nowhere else Database))))

-- `/{db}/`, which is `/{db}`, `/{db}/_all_docs` and the others, `/{db}/{id}`
abbrev pub database_resource : List ℕ → Resource
database_resource segment =
    if length segment == 0 then Database
    else (if bytes_eq segment (codes "_all_docs") then AllDocuments
    else (if bytes_eq segment (codes "_bulk_docs") then BulkDocs
    else (if bytes_eq segment (codes "_find") then Find
    else (if bytes_eq segment (codes "_explain") then Explain
    else (if bytes_eq segment (codes "_index") then Indexes
    else (if bytes_eq segment (codes "_ensure_full_commit") then FullCommit
    else (if bytes_eq segment (codes "_placement") then Placement
    else (if is_reserved segment then Nowhere else Document))))))))

-- `/{db}/_design/{name}`
abbrev pub three_resource : List ℕ → Resource
three_resource design = if bytes_eq design (codes "_design") then Design else Nowhere

-- `/{db}/_index/{ddoc}/json/{name}`
abbrev pub index_resource : List ℕ → List ℕ → Resource
index_resource indexes json =
    if bytes_eq indexes (codes "_index") && bytes_eq json (codes "json") then Index else Nowhere

-- `/{db}/_index/_design/{ddoc}/json/{name}`
abbrev pub design_resource : List ℕ → List ℕ → List ℕ → Resource
design_resource indexes design json =
    if bytes_eq indexes (codes "_index") && (bytes_eq design (codes "_design") && bytes_eq json (codes "json")) then DesignIndex else Nowhere

-- what the segments of a path name
abbrev pub resource_of : List (List ℕ) → Resource
resource_of (segment ∷ []) = server_resource segment
resource_of (db ∷ segment ∷ []) = database_resource segment
resource_of (db ∷ design ∷ name ∷ []) = three_resource design
resource_of (db ∷ indexes ∷ ddoc ∷ json ∷ name ∷ []) = index_resource indexes json
resource_of (db ∷ indexes ∷ design ∷ ddoc ∷ json ∷ name ∷ []) = design_resource indexes design json
resource_of segments = Nowhere

-- there is no such resource
abbrev pub is_nowhere : Resource → Bool
is_nowhere Nowhere = true
is_nowhere resource = false

-- the resource is of the server, not of a database
abbrev pub is_of_server : Resource → Bool
is_of_server Root = true
is_of_server Up = true
is_of_server AllDatabases = true
is_of_server Ids = true
is_of_server resource = false

-- the first segment names this database
abbrev pub names : List ℕ → List (List ℕ) → Bool
names db [] = false
names db (name ∷ segments) = bytes_eq (percent_decode name) db

-- ---- methods

-- `HEAD` asks what `GET` asks; the connection sends no body to it (RFC 9110, section 9.3.2)
abbrev pub verb_of : List ℕ → Verb
verb_of method =
    if bytes_eq method (codes "GET") || bytes_eq method (codes "HEAD") then Verb.Read
    else (if bytes_eq method (codes "POST") then Verb.Post
    else (if bytes_eq method (codes "PUT") then Verb.Put
    else (if bytes_eq method (codes "DELETE") then Verb.Delete else Verb.Other)))

-- the table of what `GET` and `HEAD` ask
abbrev pub read_action : Resource → Option Action
read_action Root = Some Does.Welcome
read_action Up = Some Does.Up
read_action AllDatabases = Some Does.ListDatabases
read_action Ids = Some Does.MakeIds
read_action Indexes = Some Does.ListIndexes
read_action Database = Some Does.ReadDatabase
read_action AllDocuments = Some Does.ListDocuments
read_action Document = Some Does.ReadDocument
read_action Design = Some Does.ReadDesign
read_action resource = None

-- the table of what `POST` asks
abbrev pub post_action : Resource → Option Action
post_action Database = Some Does.PostDocument
post_action AllDocuments = Some Does.ListDocumentsBy
post_action FullCommit = Some Does.Commit
post_action BulkDocs = Some Does.WriteBulk
post_action Find = Some (Does.Takes Takes.Find)
post_action Explain = Some (Does.Takes Takes.Explain)
post_action Indexes = Some (Does.Takes Takes.CreateIndex)
post_action Placement = Some (Does.Takes Takes.Reshard)
post_action resource = None

-- the table of what `PUT` asks
abbrev pub put_action : Resource → Option Action
put_action Database = Some Does.CreateDatabase
put_action Document = Some Does.PutDocument
put_action Design = Some Does.PutDesign
put_action resource = None

-- the table of what `DELETE` asks
abbrev pub delete_action : Resource → Option Action
delete_action Database = Some Does.DeleteDatabase
delete_action Document = Some Does.DeleteDocument
delete_action Index = Some Does.DropIndex
delete_action DesignIndex = Some Does.DropDesignIndex
delete_action resource = None

-- what a method asks of a resource; `None`: the resource does not have the method
abbrev pub action_of : Verb → Resource → Option Action
action_of Verb.Read resource = read_action resource
action_of Verb.Post resource = post_action resource
action_of Verb.Put resource = put_action resource
action_of Verb.Delete resource = delete_action resource
action_of Verb.Other resource = None

-- the methods that some resource has
abbrev pub methods : List (List ℕ)
methods = codes "DELETE" ∷ codes "GET" ∷ codes "HEAD" ∷ codes "POST" ∷ codes "PUT" ∷ []

-- the resource has the method
abbrev pub has_method : Resource → List ℕ → Bool
has_method resource method = is_some (action_of (verb_of method) resource)

-- texts with a comma and a space between them
abbrev pub joined : List (List ℕ) → List ℕ
joined [] = []
joined (t ∷ []) = t
joined (t ∷ u ∷ ts) = t ++ (codes ", " ++ joined (u ∷ ts))

-- the methods that a resource has, as `Allow` lists them (RFC 9110, section 10.2.1)
abbrev pub allowed : Resource → List ℕ
allowed resource = joined (filter (has_method resource) methods)
