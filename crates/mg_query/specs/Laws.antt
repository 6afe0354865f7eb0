-- Pages that follow one another by their bookmarks: each answers the query, and together they show all that the query finds.
use Rattle.std.specs.Prelude.{◌≡◌, ◌≢◌, ◌≤◌, ℕ, List, [], ◌∷◌, codes, map, Option, Some, None, option_map, Result, Ok, ok_or}
use Rattle.std.specs.List.{AllByRecursion}
use Rattle.mg_value.specs.Value.{Value, member_of, text}
use Rattle.mg_bookmark.specs.Bookmark.{CanBeSpelled, RowPlace}
use Rattle.mg_bookmark.specs.Reading.{bookmark_read}
use Rattle.mg_index.specs.Choice.{Source}
use Rattle.mg_index.specs.Definition.{IndexDefinition}
use Rattle.mg_merge.specs.Merged.{joined}
use Rattle.mg_shard.specs.Histories.{Histories}
use Rattle.mg_query.specs.Page.{Candidate, Page, Unanswered, answer_of, bookmark_at, candidates_of, source_columns, ddoc_of, candidates_found, name_of, row_by, served_by, shown_of}
use Rattle.mg_query.specs.Query.{Query, query_of}
use Rattle.mg_query.specs.declared.error.QueryError.TheVariants.{BadBookmark}

-- ---- a query and its bookmark

-- the query with this place and this text as its bookmark; `None`: its page begins with the first document
abbrev pub asked_after : Query → Option RowPlace → List ℕ → Query
asked_after q place t = record q { bookmark = place; given_bookmark = t }

-- the body v has this text as its bookmark; its other members are those of `other`
pub record HasBookmark (t : List ℕ) (v other : Value) : Type 0 where
  pub bookmark : member_of (codes "bookmark") v ≡ Some (text t)
  pub others : (name : List ℕ) → name ≢ codes "bookmark" → member_of name v ≡ member_of name other

-- if `other` is read as a query, v is read as that query with the bookmark of v, or refused with `BadBookmark` if the text is not a
-- bookmark
abbrev pub BookmarksChangeNothingElse : Type 0
BookmarksChangeNothingElse =
    (v other : Value) (t : List ℕ) (q : Query) → HasBookmark t v other → query_of other ≡ Ok q → query_of v ≡ ok_or (option_map (λ place. asked_after q place t) (bookmark_read t)) BadBookmark

-- ---- pages that follow one another

-- the answer to the query with this text as its bookmark; `None` if the text is not a bookmark
abbrev pub answer_with : List IndexDefinition → Query → List Candidate → List ℕ → Option (Result Page Unanswered)
answer_with ds q cs t = option_map (λ place. answer_of ds (asked_after q place t) cs) (bookmark_read t)

-- Pages, of which the last is empty and no other is. The first is the answer to the query with this text as its bookmark; each later page
-- is the answer to the query with the bookmark of the page before it.
abbrev pub Follow : List IndexDefinition → Query → List Candidate → List ℕ → List Page → Type 0
Follow ds q cs t [] = ⊥
Follow ds q cs t (page ∷ []) = (answer_with ds q cs t ≡ Some (Ok page)) × (page.docs ≡ [])
Follow ds q cs t (page ∷ next ∷ pages) = (answer_with ds q cs t ≡ Some (Ok page)) × (page.docs ≢ []) × Follow ds q cs page.bookmark (next ∷ pages)

-- ---- they join

-- the query without a bookmark: its page begins with the first document
abbrev pub from_first : Query → Query
from_first q = asked_after q None (codes "nil")

-- the place of a document in the index
abbrev pub place_at : Source → Query → Candidate → RowPlace
place_at s q c = record { ddoc = ddoc_of s; name = name_of s; direction = q.direction; key = (row_by (source_columns s) c).0; id = c.id }

-- JSON text can carry the document's place
abbrev pub PlaceCanBeSpelled : Source → Query → Candidate → Type 0
PlaceCanBeSpelled s q c = CanBeSpelled (place_at s q c)

-- the bookmark of the document is read back as the document's place
abbrev pub CanBeReadBack : Source → Query → Candidate → Type 0
CanBeReadBack s q c = bookmark_read (bookmark_at s q c) ≡ Some (Some (place_at s q c))

-- If an index serves the query without a bookmark, the query skips nothing, its limit is at least 1, and `Holds` is true of each
-- document that the query finds, then there are pages that follow one another from the first on. Together they show what the query finds,
-- in order.
abbrev pub PagesJoinWhere : (Source → Query → Candidate → Type 0) → Type 0
PagesJoinWhere Holds =
    (ds : List IndexDefinition) (s : Source) (q : Query) (hs : Histories) → served_by ds (from_first q) ≡ Ok s → q.skip ≡ 0 → 1 ≤ q.limit
    → AllByRecursion (Holds s q) (candidates_found (source_columns s) (from_first q) (candidates_of hs))
    → (pages : List Page) × Follow ds q (candidates_of hs) (codes "nil") pages
    × (joined (map (λ page. page.docs) pages) ≡ map (shown_of q) (candidates_found (source_columns s) (from_first q) (candidates_of hs)))

-- pages join if JSON text can carry the place of each document that the query finds
abbrev pub PagesJoin : Type 0
PagesJoin = PagesJoinWhere PlaceCanBeSpelled

-- pages join if the bookmark of each document that the query finds is read back as its place, whatever the keys
abbrev pub PagesReadBackJoin : Type 0
PagesReadBackJoin = PagesJoinWhere CanBeReadBack
