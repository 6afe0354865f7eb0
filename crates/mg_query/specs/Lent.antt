-- For private clauses: the hits of a page, which lend documents, and the rows that shards hand over.
use Rattle.std.specs.Prelude.{◌≡◌, ◌+◌, ◌==◌, Bool, not, ◌&&◌, List, Some, IfSome, length, option_map}
use Rattle.std.specs.List.{AllZip}
use Rattle.mg_collate.specs.Row.{RowValue}
use Rattle.mg_bookmark.specs.Bookmark.{RowPlace}
use Rattle.mg_index.specs.Definition.{Steps}
use Rattle.mg_normal.specs.Normal.{NormalForm}
use Rattle.mg_range.specs.Range.{range_of}
use Rattle.mg_revtree.specs.Tree.{StandsFor}
use Rattle.mg_scan.specs.Found.{input_of_parts}
use Rattle.mg_scan.specs.Hit.{hit_form, hit_kept, hit_row}
use Rattle.mg_scan.specs.Scan.{first_matches}
use Rattle.mg_scan.specs.declared.hit.Hit.{Hit}
use Rattle.mg_shard.specs.Documents.{docs_of}
use Rattle.mg_shard.specs.Shard.{ShardView}
use Rattle.mg_query.specs.Page.{Candidate, row_by}
use Rattle.mg_query.specs.Query.{Query}

-- the row at a bookmark's place, after which the page begins
abbrev pub row_at : RowPlace → RowValue
row_at p = (p.key, p.id)

-- the rows of an index of these columns that a shard hands over, at most skip + limit, for a query whose selector has this normal form
abbrev pub shard_rows : NormalForm → List Steps → Query → ShardView → List RowValue
shard_rows normal columns q s =
    first_matches (input_of_parts normal (range_of normal.atoms columns) (option_map row_at q.bookmark) (q.skip + q.limit) q.direction columns) (docs_of s.documents)

-- the query shows documents as they are served: whole, and without their conflicts
abbrev pub shows_whole : Query → Bool
shows_whole q = not q.conflicts && (length q.fields == 0)

-- the hit lends the document of a candidate, and its row in an index of these columns
pub record Lends (columns : List Steps) (h : Hit) (c : Candidate) : Type 0 where
  pub row : hit_row h ≡ row_by columns c
  pub form : hit_form h ≡ Some c.form
  pub tree : IfSome (hit_kept h) (λ d. StandsFor d.0 c.history)

-- the hits lend the documents of these candidates, one hit for each candidate
abbrev pub LendEach : List Steps → List Hit → List Candidate → Type 0
LendEach columns hits cs = AllZip (Lends columns) hits cs
