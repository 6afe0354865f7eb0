-- For private clauses: the rows that are extracted from documents.
use Rattle.std.specs.Prelude.{List, Option, option_and_then}
use Rattle.std.specs.List.{filter_map}
use Rattle.mg_collate.specs.Row.{RowValue}
use Rattle.mg_index.specs.Definition.{Steps}
use Rattle.mg_shard.specs.Documents.{doc_entry, kept_entry}
use Rattle.mg_shard.specs.Rows.{row_of}
use Rattle.mg_shard.specs.declared.document.Document.{Document}

-- the row of a document, if it is served and has every column
abbrev pub document_row : List Steps → Document → Option RowValue
document_row columns d = option_and_then (row_of columns) (doc_entry (kept_entry d))

-- the rows of those documents of a list that are served and have every column, in the order of the list
abbrev pub rows_in : List Steps → List Document → List RowValue
rows_in columns ds = filter_map (document_row columns) ds
