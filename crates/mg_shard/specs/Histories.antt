-- The histories of documents by their ids: what a shard stands for, with no mention of how documents are kept.
use Rattle.std.specs.Prelude.{ℕ, List, [], Option, Some, None, is_none, option_map, unwrap_or, if◌then◌else◌}
use Rattle.std.specs.Cmp.Lexicographic.{slice_cmp}
use Rattle.std.specs.FinMap as finite
use Rattle.std.specs.FinMap.{FinMap, entries}
use Rattle.std.specs.List.{filter_map}
use Rattle.std.specs.Ordering.{nat_cmp}
use Rattle.mg_value.specs.Value.{Value}
use Rattle.mg_revtree.specs.History.{Paths}
use Rattle.mg_doc.specs.Served.{served_of}

-- histories by the ids of their documents
abbrev pub Histories : Type 0
Histories = FinMap (slice_cmp nat_cmp) Paths

-- the history of an id; empty if it has none
abbrev pub history_at : Histories → List ℕ → Paths
history_at hs id = unwrap_or (finite.get hs id) []

-- a served document: its id, and the form in which it is served
abbrev pub ServedDocument : Type 0
ServedDocument = List ℕ × Value

-- the served document of an id with this history, if it is served
abbrev pub served_entry : List ℕ × Paths → Option ServedDocument
served_entry e = option_map (λ form. (e.0, form)) (served_of e.0 e.1)

-- the served documents of these histories, in the order of their ids
abbrev pub served_documents : Histories → List ServedDocument
served_documents hs = filter_map served_entry (entries hs)

-- the id of a document that has a history and is not served, since its winner is deleted; `None` if it is served
abbrev pub deleted_id : List ℕ × Paths → Option (List ℕ)
deleted_id e = if is_none (served_of e.0 e.1) then Some e.0 else None

-- the ids of the documents that have a history and are not served, in their order
abbrev pub deleted_documents : Histories → List (List ℕ)
deleted_documents hs = filter_map deleted_id (entries hs)
