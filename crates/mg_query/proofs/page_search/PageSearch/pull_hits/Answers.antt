use Rattle.std.proofs.Common.{refl, ◌∙◌, arith}
use Rattle.std.proofs.lemmas.List.{length-drop}
use Rattle.mg_shard.specs.Shard.{shards_view}
use Rattle.mg_query.specs.View.{query_view}
use Rattle.mg_query.proofs.Handed.{first_passed, found_first}
use Rattle.mg_query.proofs.page_search.PageSearch.pull_hits.Goals as goal

pub returns-clause-hits : goal.returns-clause-hits
returns-clause-hits c = first_passed (query_view c.args.self.now.query.now) c.args.self.now.plan.now (shards_view c.args.self.now.shards.now) c.in_ok-hits.hits.items (record {
  rows = c.in_ok-hits.ensures.rows ∙ found_first (query_view c.args.self.now.query.now) c.args.self.now.plan.now c.in_each_shard.result c.requires.plan c.in_each_shard.ensures (shards_view c.args.self.now.shards.now) c.requires.listed;
  hits = c.in_ok-hits.ensures.hits;
})

pub returns-clause-within : goal.returns-clause-within
returns-clause-within c = omega (arith, c.in_ok-hits.ensures.pulled, c.in_each_shard.ensures.take)

pub returns-clause-read : goal.returns-clause-read
returns-clause-read c = λ handed. (omega (arith, c.in_ok-hits.ensures.given, length-drop c.args.self.now.query.now.skip c.in_ok-hits.hits.items), refl)
