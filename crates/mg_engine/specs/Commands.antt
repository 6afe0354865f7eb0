-- What each command answers and which world it leaves: the whole behaviour of the database for one caller, after the CouchDB 3.x API
-- reference. docs/MIGRATE.md lists the differences from CouchDB.
use Rattle.std.specs.Prelude.{ℕ, List, [], ◌∷◌, Bool, true, false, codes, Option, Some, None, is_some, option_map, unwrap_or, Result, Ok, Err, if◌then◌else◌}
use Rattle.std.specs.FinMap as finite
use Rattle.mg_value.specs.Value.{Value, list}
use Rattle.mg_revtree.specs.History.{Paths}
use Rattle.mg_doc.specs.Conflicts.{with_conflicts_of}
use Rattle.mg_doc.specs.Document.{Edit}
use Rattle.mg_doc.specs.Served.{served_of}
use Rattle.mg_index.specs.Catalog.{definition_at, with_definition, without_definition}
use Rattle.mg_index.specs.Definition.{IndexDefinition, design_document}
use Rattle.mg_index.specs.Reading.{definition_of}
use Rattle.mg_index.specs.Same.{is_there}
use Rattle.mg_index.specs.declared.error.IndexError.{IndexError}
use Rattle.mg_index.specs.declared.error.IndexError.TheVariants as index_fault
use Rattle.mg_shard.specs.Edits.{after_edits, outcomes}
use Rattle.mg_query.specs.Query.{Query, query_of}
use Rattle.mg_query.specs.Page.{Unanswered, no_usable_index, bad_bookmark, answer_of, candidates_of, page_value}
use Rattle.mg_query.specs.Explain.{explanation_of}
use Rattle.mg_query.specs.declared.error.QueryError.{QueryError}
use Rattle.mg_query.specs.declared.error.QueryError.TheVariants as query_fault
use Rattle.mg_engine.specs.declared.refusal.Refusal.{Refusal}
use Rattle.mg_engine.specs.declared.refusal.Refusal.TheVariants.{WrongShape, InvalidOperator, BadArg, BadBookmark, MixedSort, NoUsableIndex, OutOfMemory, Missing, Deleted}
use Rattle.mg_engine.specs.Refusals.{status_of, refusal_body}
use Rattle.mg_engine.specs.World.{World}
use Rattle.mg_engine.specs.Bulk.{BulkEdits, bulk_read, counter_after, entries_of, numbered}
use Rattle.mg_engine.specs.Reshard.{shards_asked}
use Rattle.mg_engine.specs.Bodies.{line_of, done_value, index_value, indexes_value}

-- a command, with what it carries: the body of a `_bulk_docs`, of an `_index`, of a `_find`, of an `_explain`, or of a `_placement`, which
-- asks for a number of shards; for `drop_index` the design document and the name of the index; for `get` the document's id and whether its
-- conflicts are asked for
pub data Asked : Type 0 where
  bulk : Value → Asked
  create_index : Value → Asked
  drop_index : List ℕ → List ℕ → Asked
  list_indexes : Asked
  find : Value → Asked
  explain : Value → Asked
  get : List ℕ → Bool → Asked
  reshard : Value → Asked

-- whether a command is a write; each write that is accepted is a commit
abbrev pub is_write : Asked → Bool
is_write (bulk v) = true
is_write (create_index v) = true
is_write (drop_index ddoc name) = true
is_write list_indexes = false
is_write (find v) = false
is_write (explain v) = false
is_write (get id conflicts) = false
is_write (reshard v) = true

-- a reply: its status and the bytes of its body
pub record Answer : Type 0 where
  pub status : ℕ
  pub body : List ℕ

-- the answer that refuses a command
abbrev pub refused : Refusal → Answer
refused r = record { status = status_of r; body = refusal_body r }

-- the answer with status 200 and this value as its body
abbrev pub ok_answer : Value → Answer
ok_answer v = record { status = 200; body = line_of v }

-- ---- `_bulk_docs`

-- the answer to edits that have ids
abbrev pub edits_answer : World → Bool → List Edit → Answer
edits_answer w new_edits es = record { status = 201; body = line_of (list (entries_of new_edits es (outcomes w.docs es))) }

-- the effect of a command: its answer, and the world that it leaves
pub record Effect : Type 0 where
  pub answer : Answer
  pub world : World

-- the effect of edits: the answer with their entries, and the world with the accepted edits. The counter moves for each edit without
-- an id, accepted or refused
abbrev pub edits_effect : World → Bool → List Edit → Effect
edits_effect w new_edits es = record {
  answer = edits_answer w new_edits (numbered w.counter es);
  world = record w { docs = after_edits w.docs (numbered w.counter es); counter = counter_after w.counter es };
}

-- the effect of a bulk: that of its edits, or a refusal, which leaves the world as it is
abbrev pub bulk_effect : World → Result BulkEdits Refusal → Effect
bulk_effect w (Ok b) = edits_effect w b.new_edits b.edits
bulk_effect w (Err r) = record { answer = refused r; world = w }

-- ---- `_index`

-- a definition's fault as a refusal
abbrev pub refusal_of_index : IndexError → Refusal
refusal_of_index index_fault.Shape = WrongShape
refusal_of_index index_fault.Mixed = MixedSort
refusal_of_index index_fault.NoMemory = OutOfMemory

-- the answer to `create_index`, by the definition in its body, or by the fault of the body
abbrev pub create_answer : World → Result IndexDefinition IndexError → Answer
create_answer w (Ok d) = ok_answer (index_value d (if is_there d w.indexes then codes "exists" else codes "created"))
create_answer w (Err e) = refused (refusal_of_index e)

-- the world with the definition, which replaces one of the same design document and name; after a fault, the world as it is
abbrev pub world_defined : World → Result IndexDefinition IndexError → World
world_defined w (Ok d) = record w { indexes = with_definition d w.indexes }
world_defined w (Err e) = w

-- the answer to `drop_index`, by whether there is such an index
abbrev pub drop_answer : Bool → Answer
drop_answer true = ok_answer done_value
drop_answer false = refused Missing

-- ---- `_find` and `_explain`

-- a query's fault as a refusal
abbrev pub refusal_of_query : QueryError → Refusal
refusal_of_query query_fault.Shape = WrongShape
refusal_of_query query_fault.InvalidOperator = InvalidOperator
refusal_of_query query_fault.BadArg = BadArg
refusal_of_query query_fault.BadBookmark = BadBookmark
refusal_of_query query_fault.MixedSort = MixedSort
refusal_of_query query_fault.NoMemory = OutOfMemory

-- the reason why a well-formed query is not answered, as a refusal
abbrev pub refusal_for : Unanswered → Refusal
refusal_for no_usable_index = NoUsableIndex
refusal_for bad_bookmark = BadBookmark

-- the answer with what a query gives (a page or an explanation), made a value by `value`; if it gives nothing, the refusal for `why`
abbrev pub shown_or_refused : {A : Type 0} → (A → Value) → Result A Unanswered → Answer
shown_or_refused value (Ok a) = ok_answer (value a)
shown_or_refused value (Err why) = refused (refusal_for why)

-- the answer to a query: its page, or its refusal
abbrev pub answer_of_query : World → Result Query QueryError → Answer
answer_of_query w (Ok q) = shown_or_refused page_value (answer_of w.indexes q (candidates_of w.docs))
answer_of_query w (Err e) = refused (refusal_of_query e)

-- the answer that explains a query, or its refusal
abbrev pub explain_answer : World → Result Query QueryError → Answer
explain_answer w (Ok q) = shown_or_refused (λ v. v) (explanation_of w.name w.indexes q)
explain_answer w (Err e) = refused (refusal_of_query e)

-- ---- `GET` of a document

-- a document of this history, with its conflicts where they are asked for
abbrev pub with_conflicts_if : Bool → Paths → Value → Value
with_conflicts_if true h v = with_conflicts_of h v
with_conflicts_if false h v = v

-- the answer where the document has a history: the served document, or `deleted` if none is served
abbrev pub shown_or_deleted : Option Value → Answer
shown_or_deleted (Some v) = ok_answer v
shown_or_deleted None = refused Deleted

-- the answer to `get`: the served document; `deleted` if the document has a history and is not served, `missing` if it has no history
abbrev pub get_answer : List ℕ → Bool → Option Paths → Answer
get_answer id conflicts (Some h) = shown_or_deleted (option_map (with_conflicts_if conflicts h) (served_of id h))
get_answer id conflicts None = refused Missing

-- ---- `_placement`

-- the answer to `reshard`, by the number of shards in its body; `None`: the body has no number of shards from 1 to 64
abbrev pub reshard_answer : Option ℕ → Answer
reshard_answer (Some n) = ok_answer done_value
reshard_answer None = refused WrongShape

-- how many shards there are after a command, from their number before it
abbrev pub shards_after : ℕ → Asked → ℕ
shards_after n (reshard v) = unwrap_or (shards_asked v) n
shards_after n c = n

-- ---- all commands

-- what a command answers
abbrev pub reply_of : World → Asked → Answer
reply_of w (bulk v) = (bulk_effect w (bulk_read v)).answer
reply_of w (create_index v) = create_answer w (definition_of v)
reply_of w (drop_index ddoc name) = drop_answer (is_some (definition_at (design_document ddoc) name w.indexes))
reply_of w list_indexes = ok_answer (indexes_value w.indexes)
reply_of w (find v) = answer_of_query w (query_of v)
reply_of w (explain v) = explain_answer w (query_of v)
reply_of w (get id conflicts) = get_answer id conflicts (finite.get w.docs id)
reply_of w (reshard v) = reshard_answer (shards_asked v)

-- the world that a command leaves. A command that is refused, that reads, or that reshards leaves it as it is
abbrev pub next : World → Asked → World
next w (bulk v) = (bulk_effect w (bulk_read v)).world
next w (create_index v) = world_defined w (definition_of v)
next w (drop_index ddoc name) = record w { indexes = without_definition (design_document ddoc) name w.indexes }
next w list_indexes = w
next w (find v) = w
next w (explain v) = w
next w (get id conflicts) = w
next w (reshard v) = w

-- the answers to commands that are executed in order
abbrev pub replies_of : World → List Asked → List Answer
replies_of w [] = []
replies_of w (c ∷ cs) = reply_of w c ∷ replies_of (next w c) cs

-- the world after commands, executed in order
abbrev pub world_after : World → List Asked → World
world_after w [] = w
world_after w (c ∷ cs) = world_after (next w c) cs

-- how many shards there are after commands
abbrev pub shards_after_all : ℕ → List Asked → ℕ
shards_after_all n [] = n
shards_after_all n (c ∷ cs) = shards_after_all (shards_after n c) cs
