-- The row of a document in the index of all documents is that of its id.
use Rattle.std.proofs.Common.{◌≡◌, ℕ, List, ◌∷◌, Some, option_map, ap, sym, ◌∙◌}
use Rattle.std.specs.Option.{option_and_then}
use Rattle.mg_collate.specs.Row.{RowValue}
use Rattle.mg_scan.specs.Sourced.{holds_for, walked_documents, walked_on}
use Rattle.mg_scan.specs.Walked.{id_row, is_late_row}
use Rattle.mg_scan.specs.declared.search.Search.{Search}
use Rattle.mg_scan.proofs.Entries.{own_form}
use Rattle.mg_scan.proofs.Sources.{among_some}
use Rattle.mg_scan.proofs.Steps.{keyed}
use Rattle.mg_shard.proofs.Owned.{own_document}
use Rattle.mg_shard.specs.Documents.{form_of, id_bytes}
use Rattle.mg_shard.specs.Own.{id_columns}
use Rattle.mg_shard.specs.Rows.{row_key}
use Rattle.mg_shard.specs.declared.document.Document.{Document}
use Rattle.mg_value.specs.Value.{Items}

-- the row of a document that has a key
pub own_lent : (d : Document) (key : Items) → Some key ≡ option_and_then (row_key id_columns) (form_of d) → ◌≡◌ {A = RowValue} (key, id_bytes d) (id_row (id_bytes d))
own_lent d key e =
    let id = id_bytes d in
    own_form id (form_of d) (key, id) (own_document d) (keyed id (form_of d) ∙ ap (option_map (λ (k : Items). (k, id))) (sym e))

-- a search finds such a document by the row of its id
pub among_own : (s : Search) (d : Document) (documents : List Document) (key : Items) (id : List ℕ) → Some key ≡ option_and_then (row_key id_columns) (form_of d) → id ≡ id_bytes d
    → walked_documents s (d ∷ documents) ≡ walked_on (is_late_row s.direction s.range.now) (holds_for s.normal.now d) (Some (id_row id)) (walked_documents s documents)
among_own s d documents key id e same =
    let late = is_late_row s.direction s.range.now in
    among_some s d documents key e
    ∙ ap (λ (r : RowValue). walked_on late (holds_for s.normal.now d) (Some r) (walked_documents s documents)) (own_lent d key e ∙ ap id_row (sym same))
