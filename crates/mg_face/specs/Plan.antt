-- What a request asks for: what is said at once, or a command of the database.
use Rattle.std.specs.Prelude.{ℕ, Bool, ◌||◌, List, [], ◌∷◌, ◌++◌, codes, Option, Some, None, is_some, Result, Ok, Err, if◌then◌else◌}
use Rattle.std.specs.Str.{is_utf8}
use Rattle.std.specs.String.{string_bytes}
use Rattle.percent_encoding.specs.Percent.{percent_decode}
use Rattle.mg_revtree.specs.Revision.{Revision, revision_of}
use Rattle.mg_value.specs.Value.{Value, object, no_members, member_of}
use Rattle.mg_engine.specs.Commands.{Asked, bulk, create_index, drop_index, list_indexes, find, explain, get, reshard}
use Rattle.mg_engine.specs.Questions.{Question, database, leaf, winner, design}
use Rattle.mg_engine.specs.QuestionView.{question_view}
use Rattle.mg_engine.specs.View.{command_view}
use Rattle.mg_engine.specs.declared.question.More.{More}
use Rattle.mg_engine.specs.declared.refusal.Refusal.TheVariants.{Missing, NoDatabase, InvalidJson}
use Rattle.mg_http.specs.Target.{path_in, query_in}
use Rattle.http1.specs.Fields.{Header}
use Rattle.mg_wire.specs.declared.request.Request.{Request}
use Rattle.mg_wire.specs.Request.{fields_in}
use Rattle.mg_face.specs.declared.action.Verb.{Verb}
use Rattle.mg_face.specs.declared.count.CountFault.{CountFault}
use Rattle.mg_face.specs.declared.fault.Fault.{Fault}
use Rattle.mg_face.specs.declared.action.Endpoint.{Endpoint}
use Rattle.mg_face.specs.declared.action.Endpoint.TheVariants as Takes
use Rattle.mg_face.specs.declared.action.Action.{Action}
use Rattle.mg_face.specs.declared.action.Action.TheVariants as Does
use Rattle.mg_face.specs.declared.parameter.Parameter.{Parameter}
use Rattle.mg_face.specs.declared.plan.Plan as code
use Rattle.mg_face.specs.declared.plan.Plan.TheVariants.{Says, Asks, Finds, Looks}
use Rattle.mg_face.specs.declared.edited.Change.{Change}
use Rattle.mg_face.specs.declared.edited.Change.TheVariants as Is
use Rattle.mg_face.specs.declared.route.Resource.{Resource}
use Rattle.mg_face.specs.declared.route.Resource.TheVariants.{Database}
use Rattle.mg_face.specs.declared.said.Clash.TheVariants as Clash
use Rattle.mg_face.specs.declared.said.Said.{Said}
use Rattle.mg_face.specs.Bulk.{partial_in}
use Rattle.mg_face.specs.Count.{count_given}
use Rattle.mg_face.specs.Fault.{is_object, query_fault, bulk_fault}
use Rattle.mg_face.specs.declared.fault.Fault.TheVariants as Of
use Rattle.mg_face.specs.Ids.{with_id, bulk_with_ids}
use Rattle.mg_face.specs.Json.{json_of, is_json}
use Rattle.mg_face.specs.Place.{first_fraction}
use Rattle.mg_face.specs.Listing.{listing_asked, listing_fault, with_options}
use Rattle.mg_face.specs.Edit.{with_given, with_revisions, value_in_query, revision_in_query, revision_in_fields, deletion}
use Rattle.mg_face.specs.Routes.{segments_of, resource_of, is_nowhere, is_of_server, names, verb_of, action_of}
use Rattle.mg_face.specs.Parameters.{asks_flag, is_replica, unanswered_in}
use Rattle.mg_face.specs.Replica.{bulk_with, replica_entry}
use Rattle.mg_face.specs.Way as Shown
use Rattle.mg_face.specs.Way.{Way, way_view}

-- What is said at once; or the command that is executed, and how its answer is shown; or such a command that is executed only if a document
-- with this id is found, else the answer to its `get` is shown; or the question that is asked, and how its answer is shown.
pub data Plan : Type 0 where
  says : Said → Plan
  asks : Asked → Way → Plan
  finds : List ℕ → Asked → Way → Plan
  looks : Question → Way → Plan

-- what a plan of the code stands for
abbrev pub plan_view : code.Plan → Plan
plan_view (Says said) = says said
plan_view (Asks command way) = asks (command_view command) (way_view way)
plan_view (Finds id command way) = finds (string_bytes id) (command_view command) (way_view way)
plan_view (Looks question way) = looks (question_view question) (way_view way)

-- why no value was read from a body: it is a JSON text with a number that is not whole, or none at all
abbrev pub unread : List ℕ → Plan
unread body = if is_json body then says (Said.NotWhole (first_fraction body)) else says (Said.Refuses InvalidJson)

-- the command of an endpoint whose body is this value
abbrev pub command_of : Endpoint → Value → Asked
command_of Takes.Find v = find v
command_of Takes.Explain v = explain v
command_of Takes.CreateIndex v = create_index v
command_of Takes.Reshard v = reshard v

-- the member of a body whose shape the endpoint refuses
abbrev pub fault_of : Endpoint → Value → Option Fault
fault_of Takes.Find v = query_fault v
fault_of Takes.Explain v = query_fault v
fault_of endpoint v = None

-- the command, unless a member has the wrong shape
abbrev pub unless_faulty : Option Fault → Asked → Way → Plan
unless_faulty None command way = asks command way
unless_faulty (Some fault) command way = says (Said.Wrong fault)

-- what an endpoint does with a body, whose value is given; `None`: none was read
abbrev pub taken : Endpoint → List ℕ → Option Value → Plan
taken endpoint body (Some v) = unless_faulty (fault_of endpoint v) (command_of endpoint v) Shown.plain
taken endpoint body None = unread body

-- a bulk of documents: those that have no id get one, counted from the number that was drawn
abbrev pub bulk_asked : ℕ → Value → Way → Plan
bulk_asked drawn v way = unless_faulty (bulk_fault v) (bulk (bulk_with_ids drawn v)) way

-- the bulk of the documents that are executed, if others are refused by themselves; `None`: the whole body is refused
abbrev pub partial_docs : ℕ → List ℕ → Option (Value × List (Option Value)) → Plan
partial_docs drawn body (Some (v, refusals)) = bulk_asked drawn v (Shown.bulk refusals)
partial_docs drawn body None = unread body

-- the bulk in a body, whose value is given; `None`: none was read
abbrev pub bulk_docs : ℕ → List ℕ → Option Value → Plan
bulk_docs drawn body (Some v) = bulk_asked drawn v Shown.plain
bulk_docs drawn body None = partial_docs drawn body (partial_in body)

-- ids that are asked for
abbrev pub ids_of : ℕ → Result ℕ CountFault → Plan
ids_of drawn (Ok count) = says (Said.Ids drawn count)
ids_of drawn (Err fault) = says (Said.BadCount fault)

-- the bytes as a text; `None`: they are not UTF-8
abbrev pub text_of : List ℕ → Option (List ℕ)
text_of bytes = if is_utf8 bytes then Some bytes else None

-- the text that a segment of a path encodes
abbrev pub text_in : List ℕ → Option (List ℕ)
text_in segment = text_of (percent_decode segment)

-- a document that is shown with more than its revision and its body has no tag: what is added may change while the revision stays
abbrev pub way_of : Bool → Way
way_of more = if more then Shown.plain else Shown.document

-- the leaf of this id at a revision, or the latest one, with the path of its revision if it is asked for
abbrev pub leaf_of : List ℕ → Bool → Bool → Option Revision → Plan
leaf_of id latest path (Some r) = looks (leaf id r latest path) (way_of path)
leaf_of id latest path None = says Said.BadRevision

-- what a query asks for beside the document: `meta` is `revs_info`, `conflicts` and `deleted_conflicts`
abbrev pub more_of : List ℕ → More
more_of query = record {
  revisions = asks_flag (codes "revs") query;
  revisions_info = asks_flag (codes "meta") query || asks_flag (codes "revs_info") query;
  conflicts = asks_flag (codes "meta") query || asks_flag (codes "conflicts") query;
  deleted_conflicts = asks_flag (codes "meta") query || asks_flag (codes "deleted_conflicts") query;
}

-- the served document of this id, with what is asked for beside it
abbrev pub served_of : List ℕ → More → Plan
served_of id more =
    if more.revisions || (more.revisions_info || more.deleted_conflicts) then looks (winner id more) Shown.plain
    else asks (get id more.conflicts) (way_of more.conflicts)

-- the document of this id at the revision that a text names, if there is one; there only the path is shown beside it
abbrev pub document_at : List ℕ → Bool → More → Option (List ℕ) → Plan
document_at id latest more (Some rev) = leaf_of id latest more.revisions (revision_of rev)
document_at id latest more None = served_of id more

-- the document of this id, as the parameters of a query ask for it
abbrev pub document_of : Option (List ℕ) → List ℕ → Plan
document_of (Some id) query = document_at id (asks_flag (codes "latest") query) (more_of query) (revision_in_query query)
document_of None query = says (Said.Refuses Missing)

-- the document whose id the second segment is
abbrev pub read_document : List (List ℕ) → List ℕ → Plan
read_document (db ∷ id ∷ []) query = document_of (text_in id) query
read_document segments query = says (Said.Refuses Missing)

-- the index of this design document, after the prefix, and of this name
abbrev pub index_of : List ℕ → Option (List ℕ) → Option (List ℕ) → Plan
index_of prefix (Some ddoc) (Some name) = asks (drop_index (prefix ++ ddoc) name) Shown.plain
index_of prefix ddoc name = says (Said.Refuses Missing)

-- the index of `/{db}/_index/{ddoc}/json/{name}`
abbrev pub drop_plan : List (List ℕ) → Plan
drop_plan (db ∷ indexes ∷ ddoc ∷ json ∷ name ∷ []) = index_of [] (text_in ddoc) (text_in name)
drop_plan segments = says (Said.Refuses Missing)

-- the index of `/{db}/_index/_design/{ddoc}/json/{name}`
abbrev pub drop_design_plan : List (List ℕ) → Plan
drop_design_plan (db ∷ indexes ∷ word ∷ ddoc ∷ json ∷ name ∷ []) = index_of (codes "_design/") (text_in ddoc) (text_in name)
drop_design_plan segments = says (Said.Refuses Missing)

-- the design document of this name, after `_design/`
abbrev pub design_of : Option (List ℕ) → Plan
design_of (Some name) = looks (design (codes "_design/" ++ name)) Shown.plain
design_of None = says (Said.Refuses Missing)

-- the design document whose name the third segment is
abbrev pub read_design : List (List ℕ) → Plan
read_design (db ∷ word ∷ name ∷ []) = design_of (text_in name)
read_design segments = says (Said.Refuses Missing)

-- ---- one edit

-- the entry that is shown where the answer lists none: that of a replica's edit
abbrev pub entry_of : Bool → Value → Option Value
entry_of replica document = if replica then replica_entry document else None

-- the edit of a document that has its id and its revision; `None`: two revisions disagree
abbrev pub edit_of : Bool → Option Value → Change → Plan
edit_of replica (Some document) change =
    if is_some (member_of (codes "_attachments") document) then says Said.Attached
    else asks (bulk (bulk_with replica document)) (Shown.edit change (entry_of replica document))
edit_of replica None change = says (Said.Clashes Clash.Revisions)

-- the edit of a document that has its id, at the revisions that the query and the fields name; `None`: two ids disagree
abbrev pub edit_at : Option Value → List ℕ → List Header → Change → Plan
edit_at (Some document) query fields change =
    edit_of (is_replica query) (with_revisions (revision_in_query query) (revision_in_fields fields) document) change
edit_at None query fields change = says (Said.Clashes Clash.Ids)

-- the edit of the document in a body, which gets an id if it has none; `None`: no value was read from the body
abbrev pub post_document : ℕ → List ℕ → Option Value → List ℕ → List Header → Plan
post_document drawn body (Some document) query fields = edit_at (Some (with_id drawn document)) query fields Is.Written
post_document drawn body None query fields = unread body

-- the edit of the document in a body, at this id
abbrev pub put_at : Option (List ℕ) → List ℕ → Option Value → List ℕ → List Header → Plan
put_at None body v query fields = says (Said.Refuses Missing)
put_at (Some id) body None query fields = unread body
put_at (Some id) body (Some document) query fields = edit_at (with_given (codes "_id") (Some id) document) query fields Is.Written

-- the edit of the document in a body, whose id the second segment is
abbrev pub put_document : List (List ℕ) → List ℕ → Option Value → List ℕ → List Header → Plan
put_document (db ∷ id ∷ []) body v query fields = put_at (text_in id) body v query fields
put_document segments body v query fields = says (Said.Refuses Missing)

-- the command, only if a document with this id is found
abbrev pub if_found : List ℕ → Plan → Plan
if_found id (asks command way) = finds id command way
if_found id plan = plan

-- the deletion of the document of this id, which has to be there
abbrev pub delete_at : Option (List ℕ) → List ℕ → List Header → Plan
delete_at (Some id) query fields = if_found id (edit_at (with_given (codes "_id") (Some id) deletion) query fields Is.Deleted)
delete_at None query fields = says (Said.Refuses Missing)

-- the deletion of the document whose id the second segment is
abbrev pub delete_document : List (List ℕ) → List ℕ → List Header → Plan
delete_document (db ∷ id ∷ []) query fields = delete_at (text_in id) query fields
delete_document segments query fields = says (Said.Refuses Missing)

-- ---- `_all_docs`

-- the question, unless an option has the wrong shape
abbrev pub unless_wrong : Option Fault → Question → Plan
unless_wrong None question = looks question Shown.plain
unless_wrong (Some fault) question = says (Said.Wrong fault)

-- the rows that options ask for, unless one has the wrong shape
abbrev pub listed : Value → Plan
listed v = unless_wrong (listing_fault v) (listing_asked v)

-- the options of a value, an object, with those of a query
abbrev pub listed_with : List ℕ → Value → Plan
listed_with query v = if is_object (Some v) then listed (with_options query v) else says (Said.Wrong Of.Options)

-- the options of a body with those of a query; `None`: no value was read from the body
abbrev pub listed_by : List ℕ → List ℕ → Option Value → Plan
listed_by query body None = unread body
listed_by query body (Some v) = listed_with query v

-- ---- all actions

-- what an action asks for, with the number that was drawn, these segments, this query, these fields and this body
abbrev pub asked_for : ℕ → Action → List (List ℕ) → List ℕ → List Header → List ℕ → Plan
asked_for drawn Does.Welcome segments query fields body = says Said.Welcome
asked_for drawn Does.Up segments query fields body = says Said.Up
asked_for drawn Does.ListDatabases segments query fields body = says Said.Databases
asked_for drawn Does.MakeIds segments query fields body = ids_of drawn (count_given (value_in_query (codes "count") query))
asked_for drawn Does.ReadDatabase segments query fields body = looks database Shown.plain
asked_for drawn Does.CreateDatabase segments query fields body = says Said.DatabaseExists
asked_for drawn Does.DeleteDatabase segments query fields body = says Said.OneDatabase
asked_for drawn Does.ListDocuments segments query fields body = listed (with_options query (object no_members))
asked_for drawn Does.ListDocumentsBy segments query fields body = listed_by query body (json_of body)
asked_for drawn Does.Commit segments query fields body = says Said.Committed
asked_for drawn Does.WriteBulk segments query fields body = bulk_docs drawn body (json_of body)
asked_for drawn (Does.Takes endpoint) segments query fields body = taken endpoint body (json_of body)
asked_for drawn Does.ListIndexes segments query fields body = asks list_indexes Shown.plain
asked_for drawn Does.DropIndex segments query fields body = drop_plan segments
asked_for drawn Does.DropDesignIndex segments query fields body = drop_design_plan segments
asked_for drawn Does.ReadDocument segments query fields body = read_document segments query
asked_for drawn Does.PostDocument segments query fields body = post_document drawn body (json_of body) query fields
asked_for drawn Does.PutDocument segments query fields body = put_document segments body (json_of body) query fields
asked_for drawn Does.DeleteDocument segments query fields body = delete_document segments query fields
asked_for drawn Does.ReadDesign segments query fields body = read_design segments
asked_for drawn Does.PutDesign segments query fields body = says Said.NoDesign

-- a request of another database: this server makes none
abbrev pub elsewhere : Resource → Verb → Plan
elsewhere Database Verb.Put = says Said.OneDatabase
elsewhere resource verb = says (Said.Refuses NoDatabase)

-- the plan, unless the query has a parameter that is not answered
abbrev pub unless_unanswered : Option Parameter → Plan → Plan
unless_unanswered None plan = plan
unless_unanswered (Some parameter) plan = says (Said.Unanswered parameter)

-- what is asked of the resource that a path names, if the resource has the method
abbrev pub plan_by : ℕ → Option Action → Resource → List (List ℕ) → List ℕ → List Header → List ℕ → Plan
plan_by drawn None resource segments query fields body = says (Said.NotAllowed resource)
plan_by drawn (Some action) resource segments query fields body =
    unless_unanswered (unanswered_in action query) (asked_for drawn action segments query fields body)

-- what is asked of what a path names: something of this server and its database `db`, or of another database
abbrev pub plan_for : List ℕ → ℕ → Resource → List (List ℕ) → List ℕ → List ℕ → List Header → List ℕ → Plan
plan_for db drawn resource segments method query fields body =
    if is_of_server resource || names db segments
    then plan_by drawn (action_of (verb_of method) resource) resource segments query fields body
    else elsewhere resource (verb_of method)

-- and where the path names nothing
abbrev pub plan_at : List ℕ → ℕ → List (List ℕ) → List ℕ → List ℕ → List Header → List ℕ → Plan
plan_at db drawn segments method query fields body =
    if is_nowhere (resource_of segments) then says (Said.Refuses Missing)
    else plan_for db drawn (resource_of segments) segments method query fields body

-- what a request asks of the database `db` and its server, where `drawn` is the number that was drawn for it
abbrev pub plan_of : List ℕ → ℕ → Request → Plan
plan_of db drawn r = plan_at db drawn (segments_of (path_in r.target)) r.method (query_in r.target) (fields_in r) r.body.items
