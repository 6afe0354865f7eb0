use Rattle.std.proofs.Common.{ℕ, List, drop, length, map}
use Rattle.mg_shard.specs.Shard.{shards_view}
use Rattle.mg_query.specs.Plan.{rows_asked_of}
use Rattle.mg_query.specs.Read.{IsReadFor}
use Rattle.mg_query.specs.View.{query_view}
use Rattle.mg_query.proofs.Handed.{first_passed}
use Rattle.mg_query.proofs.Showing.{ok_weaker}
use Rattle.mg_query.proofs.page_search.PageSearch.page_hits.Goals as goal

pub returns-clause-hits : goal.returns-clause-hits
returns-clause-hits g c = first_passed (query_view c.args.self.now.query.now) c.args.self.now.plan.now (shards_view c.args.self.now.shards.now) c.in_ok-hits.hits.items c.in_ok-hits.ensures.hits

pub returns-then-is_alone-clause-read : goal.returns-then-is_alone-clause-read
returns-then-is_alone-clause-read g c =
    let plan = c.args.self.now.plan.now in
    let handed = map (λ s. length (rows_asked_of (query_view c.args.self.now.query.now) plan s)) (shards_view c.args.self.now.shards.now) in
    ok_weaker c.find_alone.result
    (λ made. (counts : List ℕ) → IsReadFor plan.is_decided (length (drop made.skip made.hits.items)) counts made.reads)
    (λ made. IsReadFor plan.is_decided (length (drop made.skip made.hits.items)) handed made.reads)
    (λ made read. read handed) c.find_alone.ensures.read
