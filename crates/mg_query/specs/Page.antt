-- The page that answers a query, after CouchDB's `_find`. The query finds the documents that match its selector, have each path of its
-- sort, and come after its bookmark, in the order of the index that serves the query. The page skips the first of these documents, shows
-- the next ones up to the query's limit, and has the bookmark of the last one that it shows.
use Rattle.std.specs.Prelude.{ℕ, ◌==◌, List, [], ◌∷◌, Bool, true, false, ◌&&◌, codes, drop, filter, length, map, take, Option, Some, None, is_some, option_map, unwrap_or, Result, Ok, Err, if◌then◌else◌}
use Rattle.std.specs.FinMap.{entries}
use Rattle.std.specs.List.{filter_map, list_all}
use Rattle.std.specs.Option.{option_map_or}
use Rattle.std.specs.Ordering.{is_gt}
use Rattle.std.specs.Str.{bytes_eq}
use Rattle.std.specs.declared.cmp.Ordering.{Ordering}
use Rattle.mg_value.specs.Value.{Value, null, text, list, object, no_members, member, item_list}
use Rattle.mg_value.specs.View.{items_of}
use Rattle.mg_path.specs.Part.{part_of, projection_of}
use Rattle.mg_collate.specs.declared.direction.Direction.{Direction}
use Rattle.mg_collate.specs.Row.{RowValue, directed_order}
use Rattle.mg_collate.specs.Sorted.{sorted}
use Rattle.mg_revtree.specs.History.{Paths}
use Rattle.mg_doc.specs.Served.{served_of}
use Rattle.mg_doc.specs.Conflicts.{with_conflicts_of}
use Rattle.mg_selector.specs.Meaning.{holds_in}
use Rattle.mg_selector.specs.declared.sense.Sense.TheVariants.{Plain}
use Rattle.mg_normal.specs.Atoms.{atoms_of}
use Rattle.mg_bookmark.specs.Bookmark.{RowPlace, spelled}
use Rattle.mg_index.specs.Choice.{Source, all_docs, defined, choice_of, id_path}
use Rattle.mg_index.specs.Definition.{IndexDefinition, Steps}
use Rattle.mg_index.specs.Reading.{is_same}
use Rattle.mg_shard.specs.Histories.{Histories}
use Rattle.mg_query.specs.Query.{Query}

-- a document that a query looks at: its id; the form in which it is served, which selectors, sorts and indexes see; and its history
pub record Candidate : Type 0 where
  pub id : List ℕ
  pub form : Value
  pub history : Paths

-- the document of an id with this history, if it is served
abbrev pub candidate_of : List ℕ × Paths → Option Candidate
candidate_of e = option_map (λ form. record { id = e.0; form = form; history = e.1 }) (served_of e.0 e.1)

-- all documents that are served, in the order of their ids
abbrev pub candidates_of : Histories → List Candidate
candidates_of hs = filter_map candidate_of (entries hs)

-- ---- the index that serves the query

-- the columns of an index; the index of all documents has the one column `_id`
abbrev pub source_columns : Source → List Steps
source_columns all_docs = id_path ∷ []
source_columns (defined d) = d.columns

-- the design document of an index; `None` for the index of all documents
abbrev pub ddoc_of : Source → Option (List ℕ)
ddoc_of all_docs = None
ddoc_of (defined d) = Some d.ddoc

-- the name of an index
abbrev pub name_of : Source → List ℕ
name_of all_docs = codes "_all_docs"
name_of (defined d) = d.name

-- ---- the order

-- the value of a document at a column; null if the document has no value there. A document that a query finds has a value at each column of
-- the index that serves the query, by the law `RangesAreComplete`
abbrev pub value_at : Candidate → Steps → Value
value_at c column = unwrap_or (part_of column c.form) null

-- the row of a document in an index of these columns
abbrev pub row_by : List Steps → Candidate → RowValue
row_by columns c = (items_of (map (value_at c) columns), c.id)

-- orders documents by the values of the columns, then by id; reversed if the direction is descending
abbrev pub order_by : List Steps → Direction → Candidate → Candidate → Ordering
order_by columns direction a b = directed_order direction (row_by columns a) (row_by columns b)

-- ---- the page

-- the selector holds of the document, and the document has each path of the sort
abbrev pub is_asked : Query → Candidate → Bool
is_asked q c = holds_in q.selector Plain (Some c.form) && list_all (λ path. is_some (part_of path c.form)) q.sort

-- the document comes after the place that the bookmark names; true without a bookmark
abbrev pub is_after : List Steps → Query → Candidate → Bool
is_after columns q c = option_map_or (λ p. is_gt (directed_order q.direction (row_by columns c) (p.key, p.id))) q.bookmark true

-- all documents that the query finds after its bookmark, in order
abbrev pub candidates_found : List Steps → Query → List Candidate → List Candidate
candidates_found columns q cs = filter (is_after columns q) (sorted (order_by columns q.direction) (filter (is_asked q) cs))

-- the documents that the page shows
abbrev pub page_candidates : List Steps → Query → List Candidate → List Candidate
page_candidates columns q cs = take q.limit (drop q.skip (candidates_found columns q cs))

-- the form of a document, with its conflicts if they are asked for
abbrev pub form_for : Query → Candidate → Value
form_for q c = if q.conflicts then with_conflicts_of c.history c.form else c.form

-- the parts of a value at the fields; the whole value if no fields are given
abbrev pub projected : List Steps → Value → Value
projected [] v = v
projected (field ∷ fields) v = projection_of (field ∷ fields) v

-- what a page shows of a document
abbrev pub shown_of : Query → Candidate → Value
shown_of q c = projected q.fields (form_for q c)

-- the bookmark of a document
abbrev pub bookmark_at : Source → Query → Candidate → List ℕ
bookmark_at s q c = spelled (record { ddoc = ddoc_of s; name = name_of s; direction = q.direction; key = (row_by (source_columns s) c).0; id = c.id })

-- the last item of a list; `None` if it is empty
abbrev pub last : {X : Type 0} → List X → Option X
last [] = None
last (x ∷ []) = Some x
last (x ∷ y ∷ ys) = last (y ∷ ys)

-- the bookmark of the last document; without documents, the bookmark's text as the query gave it
abbrev pub bookmark_after : Source → Query → List Candidate → List ℕ
bookmark_after s q cs = option_map_or (bookmark_at s q) (last cs) q.given_bookmark

-- a page: its documents and its bookmark
pub record Page : Type 0 where
  pub docs : List Value
  pub bookmark : List ℕ

-- the page of these documents
abbrev pub page_of : Source → Query → List Candidate → Page
page_of s q cs = record { docs = map (shown_of q) cs; bookmark = bookmark_after s q cs }

-- the page as a value: `{"bookmark":..,"docs":[..]}`
abbrev pub page_value : Page → Value
page_value p = object (member (codes "bookmark") (text p.bookmark) (member (codes "docs") (list (items_of p.docs)) no_members))

-- ---- the answer

-- why a query that was read has no page: no index serves it, or its bookmark is of another index, direction or number of columns
pub data Unanswered : Type 0 where
  no_usable_index : Unanswered
  bad_bookmark : Unanswered

-- whether two design documents are the same; `None` is that of the index of all documents
abbrev pub is_same_ddoc : Option (List ℕ) → Option (List ℕ) → Bool
is_same_ddoc None None = true
is_same_ddoc (Some a) (Some b) = bytes_eq a b
is_same_ddoc a b = false

-- whether a bookmark's place fits the index, read in the query's direction
abbrev pub fits_source : Source → Query → RowPlace → Bool
fits_source s q p =
    is_same_ddoc p.ddoc (ddoc_of s) && (bytes_eq p.name (name_of s) && (is_same p.direction q.direction && (length (item_list p.key) == length (source_columns s))))

-- whether the query's bookmark fits the index; true without a bookmark
abbrev pub accepts_bookmark : Source → Query → Bool
accepts_bookmark s q = option_map_or (fits_source s q) q.bookmark true

-- the index that serves the query, or why the query is not answered
abbrev pub served_by : List IndexDefinition → Query → Result Source Unanswered
served_by ds q = option_map_or (λ s. if accepts_bookmark s q then Ok s else Err bad_bookmark) (choice_of ds (atoms_of q.selector) q.sort q.hint) (Err no_usable_index)

-- the result of f for the index that serves the query, or why the query is not answered
abbrev pub if_served : {A : Type 0} → (Source → A) → Result Source Unanswered → Result A Unanswered
if_served f (Ok s) = Ok (f s)
if_served f (Err why) = Err why

-- the answer to a query, over the index definitions and all served documents
abbrev pub answer_of : List IndexDefinition → Query → List Candidate → Result Page Unanswered
answer_of ds q cs = if_served (λ s. page_of s q (page_candidates (source_columns s) q cs)) (served_by ds q)
