-- How a query would be answered, after CouchDB's `_explain`.
use Rattle.std.specs.Prelude.{ℕ, pos, List, codes, Result}
use Rattle.mg_value.specs.Value.{Value, text, whole, object, no_members, member}
use Rattle.mg_normal.specs.Atoms.{atoms_of}
use Rattle.mg_index.specs.Choice.{Source, all_docs, defined}
use Rattle.mg_index.specs.Definition.{IndexDefinition, listed_of, listed_all_docs}
use Rattle.mg_range.specs.Range.{range_of}
use Rattle.mg_range.specs.Explained.{range_value}
use Rattle.mg_query.specs.Query.{Query}
use Rattle.mg_query.specs.Page.{Unanswered, source_columns, served_by, if_served}

-- an index as it is listed
abbrev pub listed_source : Source → Value
listed_source all_docs = listed_all_docs
listed_source (defined d) = listed_of d

-- the explanation: `{"dbname":..,"fields":..,"index":..,"limit":..,"range":..,"selector":..,"skip":..}`, with an index and a range as they
-- are shown
abbrev pub explanation_with : List ℕ → Query → Value → Value → Value
explanation_with db q index range =
    object (member (codes "dbname") (text db) (member (codes "fields") q.rendered_fields (member (codes "index") index
    (member (codes "limit") (whole (pos q.limit)) (member (codes "range") range
    (member (codes "selector") q.given_selector (member (codes "skip") (whole (pos q.skip)) no_members)))))))

-- the explanation of a query, given the index that serves it
abbrev pub explained : List ℕ → Query → Source → Value
explained db q s = explanation_with db q (listed_source s) (range_value (range_of (atoms_of q.selector) (source_columns s)))

-- the explanation of a query in a database of this name, or why the query is not answered
abbrev pub explanation_of : List ℕ → List IndexDefinition → Query → Result Value Unanswered
explanation_of db ds q = if_served (explained db q) (served_by ds q)
