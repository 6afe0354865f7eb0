-- The page that the code's `Page` stands for, its text, and what shards hand over for it.
use Rattle.std.specs.Prelude.{◌≡◌, ℕ, ◌+◌, ◌≤◌, List, length, map, min, string_bytes, All, Result, Ok, Err}
use Rattle.std.specs.List.{range_with_len, sum}
use Rattle.mg_value.specs.Text.{compact}
use Rattle.mg_value.specs.Value.{Value}
use Rattle.mg_value.specs.View.{view}
use Rattle.mg_index.specs.Definition.{IndexDefinition, Steps}
use Rattle.mg_merge.specs.Work.{WorkView}
use Rattle.mg_shard.specs.Dealt.{Placing, histories_on}
use Rattle.mg_shard.specs.Histories.{Histories}
use Rattle.mg_query.specs.Page.{Page, Unanswered, candidates_of, source_columns, candidates_found, if_served, page_value, served_by}
use Rattle.mg_query.specs.Query.{Query}
use Rattle.mg_query.specs.declared.shown.LentPage as lent
use Rattle.mg_query.specs.declared.shown.Page as code
use Rattle.mg_query.specs.declared.shown.Shown.{Shown}
use Rattle.mg_query.specs.declared.shown.Shown.TheVariants.{Lent, Made}

-- the page that the code's `Page` stands for
abbrev pub page_view : code.Page → Page
page_view p = record { docs = map view p.docs.items; bookmark = string_bytes p.bookmark }

-- the value that is shown of a document
abbrev pub shown_view : Shown → Value
shown_view (Lent v) = v
shown_view (Made v) = v

-- the page that the code's `LentPage` stands for
abbrev pub lent_page_view : lent.LentPage → Page
lent_page_view p = record { docs = map shown_view p.docs.items; bookmark = string_bytes p.bookmark }

-- the compact text of the answer's page, or why there is none
abbrev pub text_of : Result Page Unanswered → Result (List ℕ) Unanswered
text_of (Ok p) = Ok (compact (page_value p))
text_of (Err why) = Err why

-- each of `count` shards handed over at most `most` rows, and `most` of these were merged, or all if there are fewer
pub record IsWorkWithin (count most : ℕ) (work : WorkView) : Type 0 where
  pub shards : length work.handed ≡ count
  pub handed : All (λ n. n ≤ most) work.handed
  pub taken : work.taken ≡ min most (sum work.handed)

-- how many rows a shard hands over for a query, by the histories of its documents: as many as the query finds there, but at most as many
-- as the page skips and shows
abbrev pub count_handed : List Steps → Query → Histories → ℕ
count_handed columns q hs = min (q.skip + q.limit) (length (candidates_found columns q (candidates_of hs)))

-- how many rows each of n shards hands over, of the documents that are placed on it
abbrev pub counts_handed : List Steps → Query → Placing → ℕ → Histories → List ℕ
counts_handed columns q place n hs = map (λ i. count_handed columns q (histories_on place n i hs)) (range_with_len 0 n)

-- how many rows each of n shards hands over, read in the index that serves the query; or why the query is not answered
abbrev pub handed_of : List IndexDefinition → Query → Placing → ℕ → Histories → Result (List ℕ) Unanswered
handed_of ds q place n hs = if_served (λ s. counts_handed (source_columns s) q place n hs) (served_by ds q)
