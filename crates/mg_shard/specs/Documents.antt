-- Documents as a shard keeps them: what contracts see of them, and the histories that they stand for.
use Rattle.std.specs.Prelude.{◌≡◌, ℕ, List, Bool, filter, map, Option, Some, None, is_none, option_map, option_and_then, if◌then◌else◌}
use Rattle.std.specs.Cmp.Lexicographic.{slice_cmp}
use Rattle.std.specs.FinMap.{FinMap, entries, from_entries, get}
use Rattle.std.specs.List.{filter_map}
use Rattle.std.specs.Ordering.{nat_cmp}
use denote.Ref.{Bor}
use Rattle.mg_value.specs.Value.{Value}
use Rattle.mg_revtree.specs.History.{Paths}
use Rattle.mg_revtree.specs.Tree.{Tree, StandsFor}
use Rattle.mg_doc.specs.Served.{served_of}
use Rattle.mg_shard.specs.Histories.{Histories, ServedDocument}
use Rattle.mg_shard.specs.Own.{form_in}
use Rattle.mg_shard.specs.declared.document.Document.{Document}

-- a document as it is kept: its revision tree, and the form in which it is served (`None` if it is deleted)
abbrev pub KeptDocument : Type 0
KeptDocument = Tree × Option Value

-- documents by their ids
abbrev pub KeptDocuments : Type 0
KeptDocuments = FinMap (slice_cmp nat_cmp) KeptDocument

-- at an id there is neither a document nor a history; or there are both, the document's tree stands for the history, and the document is
-- kept in the form in which the history is served
abbrev pub StandsAt : List ℕ → Option KeptDocument → Option Paths → Type 0
StandsAt id None None = Unit {0}
StandsAt id None (Some h) = ⊥
StandsAt id (Some d) None = ⊥
StandsAt id (Some d) (Some h) = StandsFor d.0 h × (d.1 ≡ served_of id h)

-- documents stand for histories if, at each id, the document stands for the history or there is neither
abbrev pub StandFor : KeptDocuments → Histories → Type 0
StandFor ds hs = (id : List ℕ) → StandsAt id (get ds id) (get hs id)

-- the revision tree of the document with this id, if there is such a document
abbrev pub tree_at : KeptDocuments → List ℕ → Option Tree
tree_at ds id = option_map (λ d. d.0) (get ds id)

-- the form in which the document with this id is served; `None` if there is no such document, or it is deleted
abbrev pub form_at : KeptDocuments → List ℕ → Option Value
form_at ds id = option_and_then (λ d. d.1) (get ds id)

-- the served document of a kept one; `None` if it is deleted
abbrev pub doc_entry : List ℕ × KeptDocument → Option ServedDocument
doc_entry e = option_map (λ form. (e.0, form)) e.1.1

-- the served ones among kept documents, in the order of their ids. By the law `TheServedAreKept` they are the `served_documents` of
-- the histories that the kept documents stand for
abbrev pub docs_of : KeptDocuments → List ServedDocument
docs_of ds = filter_map doc_entry (entries ds)

-- the id of a kept document that is deleted; `None` if it is served
abbrev pub deleted_entry : List ℕ × KeptDocument → Option (List ℕ)
deleted_entry e = if is_none e.1.1 then Some e.0 else None

-- the ids of the deleted ones among kept documents, in their order. By the law `TheDeletedAreKept` they are the `deleted_documents` of the
-- histories that the kept documents stand for
abbrev pub deleted_of : KeptDocuments → List (List ℕ)
deleted_of ds = filter_map deleted_entry (entries ds)

-- ---- of the code's documents

-- the id of a document
abbrev pub id_bytes : Document → List ℕ
id_bytes d = d.id

-- the form in which a document is served; `None` if it is deleted
abbrev pub form_of : Document → Option Value
form_of d = form_in d.served

-- the document as it is kept
abbrev pub kept_of : Document → KeptDocument
kept_of d = (d.tree, form_of d)

-- a document as it is kept, with its id
abbrev pub kept_entry : Document → List ℕ × KeptDocument
kept_entry d = (d.id, kept_of d)

-- the documents of a list, by their ids
abbrev pub kept_documents : List Document → KeptDocuments
kept_documents ds = from_entries (map kept_entry ds)

-- the served ones in a list of documents, in its order: what `docs_of` gives if the list is in the order of the ids
abbrev pub docs_in : List Document → List ServedDocument
docs_in ds = filter_map (λ d. doc_entry (kept_entry d)) ds

-- whether a document is deleted
abbrev pub is_deleted : Document → Bool
is_deleted d = is_none (form_of d)

-- the deleted ones in a list of documents, in its order
abbrev pub deleted_among : List Document → List Document
deleted_among ds = filter is_deleted ds

-- a lent id with a form, as a served document
abbrev pub lent_document_view : Bor (List ℕ) × Value → ServedDocument
lent_document_view p = (p.0.now, p.1)
