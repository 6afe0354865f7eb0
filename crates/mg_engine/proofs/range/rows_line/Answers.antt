use Rattle.std.proofs.Common.{◌≡◌, ◌+◌, ◌∙◌, ap, ap₂, map, min}
use Rattle.mg_shard.specs.Shard.{shards_view}
use Rattle.mg_query.specs.Paged.{shown_view}
use Rattle.mg_engine.specs.Bodies.{line_of}
use Rattle.mg_engine.specs.Listing.{count_before, offset_of}
use Rattle.mg_engine.specs.Questions.{doc_count, listed_row, rows_value}
use Rattle.mg_engine.specs.QuestionView.{listing_view}
use Rattle.mg_engine.proofs.Counting.{docs_all}
use Rattle.mg_engine.proofs.range.rows_line.Goals as goal

pub returns : goal.returns
returns c = λ place hs stands.
    let l = listing_view c.args.listing.now in
    let total : c.in_ok-total.total ≡ doc_count hs = c.in_ok-total.ensures ∙ docs_all place (shards_view c.args.shards.now) hs stands in
    let before = c.in_ok-before.ensures place hs stands ∙ ap (λ d. count_before d l.start hs) c.direction.ensures in
    let passed = c.in_ok-passed.ensures ∙ ap (λ n. n + l.skip) before in
    let offset : c.least-offset.result ≡ offset_of hs l = c.least-offset.ensures ∙ ap₂ min total passed in
    c.in_ok-line.ensures ∙ ap₂ (λ n m. line_of (rows_value n m (map (listed_row l.documents) (map shown_view c.args.docs.now)))) offset total
