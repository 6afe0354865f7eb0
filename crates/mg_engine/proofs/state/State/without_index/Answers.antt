use Rattle.std.proofs.Common.{◌≡◌, List, map, sym, ap, ◌∙◌, subst}
use Rattle.std.specs.Arc.{arc_value}
use Rattle.mg_index.specs.Catalog.{without_definition}
use Rattle.mg_index.specs.Definition.{IndexDefinition}
use Rattle.mg_shard.specs.Shard.{ShardView, shards_view}
use Rattle.mg_engine.specs.Settled.{shard_without}
use Rattle.mg_engine.specs.Stands.{HaveRows}
use Rattle.mg_engine.proofs.Indexes.{rows_without}
use Rattle.mg_engine.proofs.state.State.without_index.Goals as goal

pub with_catalog-requires-clause-rows : goal.with_catalog-requires-clause-rows
with_catalog-requires-clause-rows c =
    let ddoc = c.args.ddoc.now in
    let name = c.args.name.now in
    let ds = arc_value c.self.inside.catalog in
    let ss = shards_view c.self.inside.shards.items in
    let shards : shards_view c.in_ok-shards.shards.items ≡ map (shard_without ddoc name) ss = c.in_ok-shards.ensures ∙ ap (λ xs. map (shard_without ddoc name) (shards_view xs)) c.deref.ensures.value in
    let catalog : c.remove.new.self ≡ without_definition ddoc name ds = c.remove.ensures.rest ∙ ap (without_definition ddoc name) (c.in_ok-catalog.ensures ∙ c.deref-2.ensures) in
    subst (λ (ds : List IndexDefinition). HaveRows ds (shards_view c.in_ok-shards.shards.items)) (sym catalog)
    (subst (λ (ss : List ShardView). HaveRows (without_definition ddoc name ds) ss) (sym shards) (rows_without ddoc name ds ss c.self.invariant.rows))
