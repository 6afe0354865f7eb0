use Rattle.std.proofs.Common.{List, sym, subst}
use Rattle.mg_index.specs.Definition.{IndexDefinition}
use Rattle.mg_shard.specs.Shard.{HaveIndexes, shards_view}
use Rattle.mg_query.proofs.Indexed.{have_all}
use Rattle.mg_tests.proofs.engine_tests.is_pulled.Goals as goal

pub page_text-requires-clause-indexes : goal.page_text-requires-clause-indexes
page_text-requires-clause-indexes g c = λ κs within.
    subst (λ (ds : List IndexDefinition). HaveIndexes ds (shards_view c.shards-shards.result.now)) (sym c.catalog-catalog.ensures) (have_all _ (shards_view c.shards-shards.result.now) c.shards-shards.ensures.rows)
