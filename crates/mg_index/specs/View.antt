-- What the code's columns and hints stand for, and when a choice is right.
use Rattle.std.specs.Prelude.{◌≡◌, List, Option, Some, None, Result, Ok, Err, map, slice_get, string_bytes}
use Rattle.mg_index.specs.Choice.{Hint, no_hint, in_document, exactly, Source, all_docs, defined}
use Rattle.mg_index.specs.Definition.{IndexDefinition}
use Rattle.mg_index.specs.Reading.{Columns}
use Rattle.mg_index.specs.declared.column.Columns as column
use Rattle.mg_index.specs.declared.choice.Choice.{Choice}
use Rattle.mg_index.specs.declared.choice.Choice.TheVariants.{AllDocs, Index}
use Rattle.mg_index.specs.declared.error.NoUsableIndex.{NoUsableIndex}
use Rattle.mg_index.specs.declared.query.Hint as code

-- the columns that a `Columns` of the code stands for
abbrev pub columns_view : column.Columns → Columns
columns_view c = record { texts = map string_bytes c.texts.items; steps = c.paths.items; direction = c.direction }

-- the hint that a `Hint` of the code stands for
abbrev pub hint_of : code.Hint → Hint
hint_of code.TheVariants.None = no_hint
hint_of (code.TheVariants.Ddoc ddoc) = in_document (string_bytes ddoc)
hint_of (code.TheVariants.Both ddoc name) = exactly (string_bytes ddoc) (string_bytes name)

-- the choice is what serves the query, a defined index being given by its place in the catalog; the error says that nothing serves it
abbrev pub Chooses : List IndexDefinition → Option Source → Result Choice NoUsableIndex → Type 0
Chooses ds source (Ok AllDocs) = source ≡ Some all_docs
Chooses ds source (Ok (Index place)) = (d : IndexDefinition) × (slice_get ds place ≡ Some d) × (source ≡ Some (defined d))
Chooses ds source (Err e) = source ≡ None
