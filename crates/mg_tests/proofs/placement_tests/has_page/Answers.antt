use Rattle.std.proofs.Common.{◌≡◌, IfOk, codes, sym, ◌∙◌, subst}
use Rattle.mg_shard.specs.Shard.{HaveIndexes, shards_view}
use Rattle.mg_query.proofs.Indexed.{have_all, have_left}
use Rattle.mg_tests.proofs.placement_tests.has_page.Goals as goal

pub page-requires-clause-indexes : goal.page-requires-clause-indexes
page-requires-clause-indexes g c = λ κs within.
    let shards = shards_view c.shards-shards.result.now in
    let copied = subst (λ r. IfOk r (λ ds. ds ≡ c.catalog.result.now)) c.expect-catalog.ensures c.copy.ensures in
    let all = subst (λ ds. HaveIndexes ds shards) (sym (copied ∙ c.catalog.ensures)) (have_all _ shards c.shards-shards.ensures.rows) in
    subst (λ ds. HaveIndexes ds shards) (sym c.remove.ensures.rest) (have_left (codes "_design/x") (codes "a_idx") c.expect-catalog.result shards all)
