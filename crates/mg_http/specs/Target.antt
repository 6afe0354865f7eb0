-- What the method and the target of a head ask for (RFC 9110, section 9; RFC 3986, sections 2 and 3).
use Rattle.std.specs.Prelude.{ℕ, Bool, false, not, ◌&&◌, List, [], ◌∷◌, ◌++◌, bytes_eq, codes, find, Option, Some, None, if◌then◌else◌}
use Rattle.std.specs.List.{list_all, list_any}
use Rattle.std.specs.Option.{option_map}
use Rattle.std.specs.Str.{is_utf8}
use Rattle.std.specs.Str.Lossy.{utf8_lossy}
use Rattle.form_urlencoded.specs.Form.{split_once, raw_pairs, decode}
use Rattle.mg_engine.specs.declared.refusal.Refusal.{Refusal}
use Rattle.mg_engine.specs.declared.refusal.Refusal.TheVariants.{Missing, NoDatabase, MethodNotAllowed}
use Rattle.mg_engine.specs.Commands.{Asked, get, list_indexes, drop_index}
use Rattle.mg_http.specs.declared.request.routes.Endpoint.{Endpoint}
use Rattle.mg_http.specs.declared.request.routes.Action.{Action}
use Rattle.mg_http.specs.declared.request.routes.Action.TheVariants.{Body, Document, ListIndexes, DropIndex, DropDesignIndex}
use Rattle.mg_http.specs.Routes.{routes, whole_path, matches_route, is_matched_by, parameters_of, segments_of}

-- what a head asks for: what an endpoint does with the body, a command, or a refusal
pub data Request : Type 0 where
  body : Endpoint → Request
  asks : Asked → Request
  refuses : Refusal → Request

-- the path of a target: the bytes before its first question mark
abbrev pub path_in : List ℕ → List ℕ
path_in target = (split_once 63 target).0

-- the query of a target: the bytes after its first question mark
abbrev pub query_in : List ℕ → List ℕ
query_in target = (split_once 63 target).1

-- the name and value of a query parameter decode to `conflicts=true`
abbrev pub is_conflicts : List ℕ × List ℕ → Bool
is_conflicts pair = bytes_eq (utf8_lossy (decode pair.0)) (codes "conflicts") && bytes_eq (utf8_lossy (decode pair.1)) (codes "true")

-- some parameter of the query decodes to `conflicts=true`
abbrev pub asks_conflicts : List ℕ → Bool
asks_conflicts query = list_any is_conflicts (raw_pairs query)

-- The command that reads the document whose id is the parameter after the database's name (`conflicts`: with its conflicts). Unless there
-- are two parameters, the request is refused as missing.
abbrev pub document_asked : List (List ℕ) → Bool → Request
document_asked (db ∷ id ∷ []) conflicts = asks (get id conflicts)
document_asked parameters conflicts = refuses Missing

-- The command that drops the index whose design document and name are the parameters after the database's name. The design document's
-- name is this prefix, followed by its parameter. Unless there are three parameters, the request is refused as missing.
abbrev pub drop_asked : List ℕ → List (List ℕ) → Request
drop_asked prefix (db ∷ ddoc ∷ name ∷ []) = asks (drop_index (prefix ++ ddoc) name)
drop_asked prefix parameters = refuses Missing

-- What a route asks for with these parameters, of which the first is the database's name. Below `_index/_design` the design document's
-- name is `_design/` followed by the parameter, even if the parameter itself begins with `_design/`.
abbrev pub requested : Action → List (List ℕ) → List ℕ → Request
requested (Body endpoint) parameters query = body endpoint
requested Document parameters query = document_asked parameters (asks_conflicts query)
requested ListIndexes parameters query = asks list_indexes
requested DropIndex parameters query = drop_asked [] parameters
requested DropDesignIndex parameters query = drop_asked (codes "_design/") parameters

-- what the route with the method asks for; `None`: no route with this path has the method
abbrev pub requested_by : Option Action → List (List ℕ) → List ℕ → Request
requested_by None parameters query = refuses MethodNotAllowed
requested_by (Some action) parameters query = requested action parameters query

-- the first parameter is this database's name
abbrev pub names : List ℕ → List (List ℕ) → Bool
names db [] = false
names db (name ∷ parameters) = bytes_eq name db

-- What is asked, from the decoded parameters of the route (`None`: the path matches no route) and from what the route with the method asks
-- for (`None`: no route with this path has the method). A parameter that is not UTF-8 is refused as missing, too. The database's name is
-- checked before the method.
abbrev pub request_with : List ℕ → Option (List (List ℕ)) → Option Action → List ℕ → Request
request_with db None action query = refuses Missing
request_with db (Some parameters) action query =
    if not (list_all is_utf8 parameters) then refuses Missing
    else (if names db parameters then requested_by action parameters query else refuses NoDatabase)

-- what a method and the segments of a path ask of the database
abbrev pub request_on : List ℕ → List ℕ → List ℕ → List (List ℕ) → Request
request_on db method query segments =
    request_with db (option_map (λ r. parameters_of segments (whole_path r)) (find (matches_route segments) routes))
    (option_map (λ r. r.action) (find (is_matched_by method segments) routes)) query

-- what a method and a target ask of the database
abbrev pub request_of : List ℕ → List ℕ → List ℕ → Request
request_of db method target = request_on db method (query_in target) (segments_of (path_in target))
