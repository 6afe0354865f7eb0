-- From what the shards list to the rows of the page.
use Rattle.std.proofs.Common.{◌≡◌, ◌+◌, Bool, true, ◌&&◌, List, [], ◌∷◌, Option, Some, map, drop, take, refl, sym, subst}
use Rattle.std.specs.List.{AllByRecursion}
use Rattle.std.specs.List.Sorted.{IsPermutation}
use Rattle.std.specs.Option.{option_map_or}
use Rattle.std.specs.Ordering.{is_gt}
use Rattle.std.specs.FinMap.{entries}
use Rattle.mg_value.specs.Value.{Value, item_list}
use Rattle.mg_collate.specs.Row.{RowValue, directed_order}
use Rattle.mg_selector.specs.Meaning.{holds_in}
use Rattle.mg_selector.specs.declared.sense.Sense.TheVariants.{Plain}
use Rattle.mg_normal.specs.Atoms.{atoms_of}
use Rattle.mg_index.specs.Choice.{is_usable}
use Rattle.mg_index.specs.Definition.{Steps}
use Rattle.mg_merge.specs.Merged.{joined, merged}
use Rattle.mg_range.specs.Laws.{RangesAreComplete}
use Rattle.mg_range.specs.RangeSide.{has_key}
use Rattle.mg_range.specs.Range.{range_of}
use Rattle.mg_shard.specs.Dealt.{Placing, ShardsStandFor}
use Rattle.mg_shard.specs.Documents.{docs_of}
use Rattle.mg_shard.specs.Histories.{Histories}
use Rattle.mg_shard.specs.Rows.{row_of}
use Rattle.mg_shard.specs.Shard.{ShardView}
use Rattle.mg_query.specs.Page.{Candidate, candidates_of, is_asked, page_candidates, row_by}
use Rattle.mg_query.specs.Query.{Query}
use Rattle.mg_query.specs.Served.{HaveIdsAndRevs}
use Rattle.mg_query.proofs.Candidates.{document, documents_of, found_by_row}
use Rattle.mg_query.proofs.Dealt.{dealt}
use Rattle.mg_query.proofs.Gathered.{IsFoundBy, listed_rows, rows_asked, rows_of_page}

-- the row comes after the place that the bookmark names, if there is one
abbrev pub follows : Query → RowValue → Bool
follows q r = option_map_or (λ p. is_gt (directed_order q.direction r (p.key, p.id))) q.bookmark true

-- the row is in the query's range, and comes after that place
abbrev pub is_wanted_by : Query → List Steps → RowValue → Bool
is_wanted_by q columns r = has_key (range_of (atoms_of q.selector) columns) (item_list r.0) && follows q r

-- of each candidate the query finds one row if it asks for the candidate and the row is after the bookmark, and none otherwise
pub all_found_by_row : RangesAreComplete → (q : Query) (columns : List Steps) (holds : Option Value → Bool) → ((x : Option Value) → holds x ≡ holds_in q.selector Plain x) → is_usable (atoms_of q.selector) q.sort columns ≡ true
    → (cs : List Candidate) → HaveIdsAndRevs cs
    → AllByRecursion (IsFoundBy (row_by columns) document (is_asked q) (follows q) (rows_asked (λ d. holds (Some d.1)) (row_of columns) (is_wanted_by q columns))) cs
all_found_by_row complete q columns holds same usable [] h = tt
all_found_by_row complete q columns holds same usable (c ∷ cs) h = (found_by_row complete q columns (follows q) holds same usable c h.0.0 h.0.1, all_found_by_row complete q columns holds same usable cs h.1)

-- The rows of the page over all documents that the histories serve, wherever these are placed: the lists of the shards, each cut at
-- skip + limit, merged, without the first `skip`.
pub rows_of_answer : RangesAreComplete → (q : Query) (columns : List Steps) (holds : Option Value → Bool) → ((x : Option Value) → holds x ≡ holds_in q.selector Plain x) → is_usable (atoms_of q.selector) q.sort columns ≡ true
    → (place : Placing) (shards : List ShardView) (hs : Histories) → ShardsStandFor place shards hs → HaveIdsAndRevs (candidates_of hs)
    → drop q.skip (merged q.direction (q.skip + q.limit) (map (λ ds. take (q.skip + q.limit) (listed_rows (λ d. holds (Some d.1)) (row_of columns) (is_wanted_by q columns) q.direction ds)) (map (λ s. docs_of s.documents) shards)))
    ≡ map (row_by columns) (page_candidates columns q (candidates_of hs))
rows_of_answer complete q columns holds same usable place shards hs stands whole =
    let rows = rows_asked (λ d. holds (Some d.1)) (row_of columns) (is_wanted_by q columns) in
    rows_of_page (row_by columns) document (is_asked q) (follows q) rows (λ d. holds (Some d.1)) (row_of columns) (is_wanted_by q columns) refl q.direction q.skip q.limit (candidates_of hs)
    (map (λ s. docs_of s.documents) shards)
    (subst (λ ds. IsPermutation ds (joined (map (λ s. docs_of s.documents) shards))) (sym (documents_of (entries hs))) (dealt place shards hs stands))
    (all_found_by_row complete q columns holds same usable (candidates_of hs) whole)
