-- The index that serves a query, and the answer to it: what the code returns, against the definition.
use Rattle.std.specs.Prelude.{◌≡◌, List, Some, Result, Ok, Err}
use Rattle.mg_index.specs.Catalog.{definition_at}
use Rattle.mg_index.specs.Choice.{Source, all_docs, defined, id_path, rev_path}
use Rattle.mg_index.specs.Definition.{IndexDefinition}
use Rattle.std.specs.List.{AllByRecursion}
use Rattle.mg_range.specs.Laws.{Has}
use Rattle.mg_query.specs.Page.{Candidate, Unanswered, no_usable_index, bad_bookmark}
use Rattle.mg_query.specs.declared.error.PageError.{PageError}
use Rattle.mg_query.specs.declared.error.PageError.TheVariants.{NoUsableIndex, BadBookmark, NoMemory}
use Rattle.mg_query.specs.declared.source.Source as code

-- the definition's result is the fault that this error stands for; it may be any result if the error is `NoMemory`
abbrev pub FailsAs : {Y : Type 0} → PageError → Result Y Unanswered → Type 0
FailsAs NoUsableIndex r = r ≡ Err no_usable_index
FailsAs BadBookmark r = r ≡ Err bad_bookmark
FailsAs NoMemory r = Unit {0}

-- the error for why a query is not answered
abbrev pub error_of : Unanswered → PageError
error_of no_usable_index = NoUsableIndex
error_of bad_bookmark = BadBookmark

-- the call returned what the definition gives, or its fault, unless an allocation failed; `item_view` gives what a value of the code stands for
abbrev pub PageAnswers : {X Y : Type 0} → (X → Y) → Result X PageError → Result Y Unanswered → Type 0
PageAnswers item_view (Ok x) r = r ≡ Ok (item_view x)
PageAnswers item_view (Err e) r = FailsAs e r

-- the index that the code's `Source` stands for
abbrev pub source_view : code.Source → Source
source_view code.TheVariants.AllDocs = all_docs
source_view (code.TheVariants.Defined d place) = defined d.now

-- the catalog of these definitions has the index under its design document and name; every catalog has the index of all documents
abbrev pub IsInCatalog : List IndexDefinition → Source → Type 0
IsInCatalog ds all_docs = Unit {0}
IsInCatalog ds (defined d) = definition_at d.ddoc d.name ds ≡ Some d

-- ---- documents that are objects

-- the document's form has an `_id` and a `_rev`; the form of every document whose body is an object has both
abbrev pub HasIdAndRev : Candidate → Type 0
HasIdAndRev c = Has c.form id_path × Has c.form rev_path

-- the form of each of these documents has an `_id` and a `_rev`
abbrev pub HaveIdsAndRevs : List Candidate → Type 0
HaveIdsAndRevs cs = AllByRecursion HasIdAndRev cs
