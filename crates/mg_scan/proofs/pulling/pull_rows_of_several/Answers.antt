use Rattle.std.proofs.Common.{ap, drop, sym, ◌∙◌, arith}
use Rattle.std.proofs.lemmas.List.{drop-map}
use Rattle.mg_merge.specs.Merged.{merged}
use Rattle.mg_scan.specs.Hit.{hit_row}
use Rattle.mg_scan.proofs.Decided.{all_alike}
use Rattle.mg_scan.proofs.PassedOver.{decided_still}
use Rattle.mg_scan.proofs.pulling.pull_rows_of_several.Goals as goal
use Rattle.mg_shard.specs.Shard.{shards_view}

pub returns-clause-rows : goal.returns-clause-rows
returns-clause-rows c =
    let shards = shards_view c.args.shards.now in
    let rest = c.in_ok-rest.rest in
    let left = c.in_ok-rest.left in
    sym (drop-map hit_row left c.in_ok-hits.hits.items)
    ∙ ap (drop left) (c.in_ok-hits.ensures.rows ∙ ap (merged rest.direction rest.take) (all_alike rest shards (decided_still shards c.args.search rest c.in_ok-rest.ensures.same c.requires.decided)))
    ∙ c.in_ok-rest.ensures.page c.requires.decided

pub returns-clause-pulled : goal.returns-clause-pulled
returns-clause-pulled c = omega (arith, c.in_ok-hits.ensures.pulled, c.in_ok-rest.ensures.take)
