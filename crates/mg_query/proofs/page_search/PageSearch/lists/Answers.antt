use Rattle.std.proofs.Common.{◌≡◌, List, map, subst}
use Rattle.std.specs.Prelude.{IfOk}
use Rattle.mg_collate.specs.Row.{RowValue}
use Rattle.mg_shard.specs.Shard.{shards_view}
use Rattle.mg_scan.specs.Hit.{hit_rows}
use Rattle.mg_query.specs.View.{query_view}
use Rattle.mg_query.proofs.Handed.{found_rows}
use Rattle.mg_query.proofs.page_search.PageSearch.lists.Goals as goal

pub returns-clause-rows : goal.returns-clause-rows
returns-clause-rows g c =
    subst (λ (rows : List (List RowValue)). IfOk c.scan_lent.result (λ lists. map (λ hits. hit_rows hits.items) lists.items ≡ rows))
    (found_rows (query_view c.args.self.now.query.now) c.args.self.now.plan.now c.in_each_shard-search.result c.requires.plan c.in_each_shard-search.ensures (shards_view c.args.self.now.shards.now) c.requires.listed)
    c.scan_lent.ensures.rows
