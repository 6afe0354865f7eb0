use Rattle.std.proofs.Common.{◌-◌, drop, ap, sym, ◌∙◌, arith}
use Rattle.std.proofs.lemmas.List.{length-drop}
use Rattle.mg_shard.specs.Shard.{shards_view}
use Rattle.mg_query.specs.View.{query_view}
use Rattle.mg_query.proofs.Handed.{decided_in, found_first}
use Rattle.mg_query.proofs.page_search.PageSearch.pull_page.Goals as goal

pub pull_rows-requires : goal.pull_rows-requires
pull_rows-requires c =
    record { decided = decided_in (query_view c.args.self.now.query.now) c.args.self.now.plan.now c.in_each_shard-search.result c.requires.planned.plan c.in_each_shard-search.ensures c.requires.decided (shards_view c.args.self.now.shards.now) c.requires.planned.listed }

pub returns-clause-hits : goal.returns-clause-hits
returns-clause-hits c =
    let q = query_view c.args.self.now.query.now in
    record {
      rows = c.in_ok-hits.ensures.rows ∙ ap (drop q.skip) (found_first q c.args.self.now.plan.now c.in_each_shard-search.result c.requires.planned.plan c.in_each_shard-search.ensures (shards_view c.args.self.now.shards.now) c.requires.planned.listed);
      hits = c.in_ok-hits.ensures.hits;
    }

pub returns-clause-within : goal.returns-clause-within
returns-clause-within c = omega (arith, c.in_ok-hits.ensures.pulled, c.in_each_shard-search.ensures.take)

pub returns-clause-read : goal.returns-clause-read
returns-clause-read c = λ handed.
    let shown = length-drop c.in_ok-hits.skip c.in_ok-hits.hits.items in
    (omega (arith, c.in_ok-hits.ensures.given, shown), c.saturating_sub-documents.ensures ∙ ap (λ n. n - c.in_ok-hits.skip) (c.len.ensures ∙ c.in_ok-hits.hits.ok.0) ∙ sym shown)
