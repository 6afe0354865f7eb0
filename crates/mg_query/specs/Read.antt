-- How much is read for a page.
use Rattle.std.specs.Prelude.{◌≡◌, ℕ, ◌+◌, ◌≤◌, Bool, true, false, not, ◌&&◌, List, is_some, length, if◌then◌else◌}
use Rattle.mg_index.specs.Choice.{Source}
use Rattle.mg_index.specs.Definition.{Steps}
use Rattle.mg_normal.specs.Normal.{NormalForm}
use Rattle.mg_range.specs.Decided.{decides_of}
use Rattle.mg_shard.specs.Dealt.{Placing}
use Rattle.mg_shard.specs.Histories.{Histories}
use Rattle.mg_query.specs.Page.{candidates_of, page_candidates, source_columns}
use Rattle.mg_query.specs.Paged.{IsWorkWithin, counts_handed}
use Rattle.mg_query.specs.View.{query_view}
use Rattle.mg_query.specs.declared.query.Query as code
use Rattle.mg_query.specs.declared.reads.Reads.{Reads}
use Rattle.mg_query.specs.declared.reads.Reads.TheVariants.{Handed, Pulled}

-- whether the range of keys at these columns decides the whole selector in this normal form
abbrev pub is_decided : List Steps → NormalForm → Bool
is_decided columns normal = not (is_some normal.rest) && decides_of normal.atoms columns

-- whether one thread pulled the rows
abbrev pub is_pulled : Reads → Bool
is_pulled (Pulled rows documents) = true
is_pulled (Handed work) = false

-- of `count` shards together at most `most` rows were pulled, and one more for each shard; or each handed over at most `most` rows
abbrev pub IsReadWithin : ℕ → ℕ → Reads → Type 0
IsReadWithin count most (Pulled rows documents) = rows ≤ most + count
IsReadWithin count most (Handed work) = IsWorkWithin count most work

-- for a page of so many documents at least as many rows were pulled, and the documents of all were looked up, but if the range decides the
-- selector, only those of the page; or the shards handed over so many rows each
abbrev pub IsReadFor : Bool → ℕ → List ℕ → Reads → Type 0
IsReadFor decided shown handed (Pulled rows documents) = (shown ≤ rows) × (documents ≡ (if decided then shown else rows))
IsReadFor decided shown handed (Handed work) = work.handed ≡ handed

-- this is what is read for the page of a query, which this index serves, of n shards on which the documents are placed
abbrev pub IsReadOf : Source → code.Query → Placing → ℕ → Histories → Reads → Type 0
IsReadOf s q place n hs =
    IsReadFor (is_decided (source_columns s) q.normal) (length (page_candidates (source_columns s) (query_view q) (candidates_of hs))) (counts_handed (source_columns s) (query_view q) place n hs)
