use Rattle.std.proofs.Common.{◌≡◌, ◌++◌, List, map, drop, nat_lt}
use Rattle.mg_value.specs.Text.{compact, compact_items}
use Rattle.mg_value.specs.Value.{list}
use Rattle.mg_value.specs.View.{items_of}
use Rattle.mg_index.specs.Definition.{Steps}
use Rattle.mg_query.specs.Page.{Candidate, shown_of}
use Rattle.mg_query.specs.Lent.{LendEach}
use Rattle.mg_query.specs.View.{query_view}
use Rattle.mg_query.proofs.text.with_documents.Given as goal

-- the text so far, and that of the documents that are left, is the text of all documents
abbrev pub invariant-loop-place : goal.invariant-loop-place
invariant-loop-place l =
    (columns : List Steps) (cs : List Candidate) → LendEach columns l.hits cs
    → l.fn.out.items ++ compact (list (items_of (map (shown_of (query_view l.query)) cs))) ≡ l.out.items ++ compact_items (nat_lt 0 l.place) (items_of (map (shown_of (query_view l.query)) (drop l.place cs)))
