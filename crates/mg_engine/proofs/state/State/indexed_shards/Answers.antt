use Rattle.std.proofs.Common.{◌≡◌, All, Global, List, sym, ap, subst}
use Rattle.std.specs.Arc.{arc_value}
use Rattle.std.specs.declared.sync.Arc.{Arc}
use Rattle.mg_index.specs.Definition.{IndexDefinition}
use Rattle.mg_shard.specs.Shard.{ShardView, shards_view}
use Rattle.mg_engine.specs.Stands.{HaveRows, StateView}
use Rattle.mg_engine.proofs.Indexes.{each_has}
use Rattle.mg_engine.proofs.state.State.indexed_shards.Goals as goal

pub returns-clause-rows : goal.returns-clause-rows
returns-clause-rows c =
    let ds = arc_value c.self.inside.catalog in
    let catalog : ds ≡ c.args.self.now.catalog = ap (λ (s : StateView). s.catalog) c.self.view_is in
    subst (λ (ds : List IndexDefinition). All (λ (s : ShardView). s.definitions ≡ ds) (shards_view c.deref.result.now)) catalog
    (each_has ds (shards_view c.deref.result.now) (subst (λ (xs : List (Arc ShardView Global)). HaveRows ds (shards_view xs)) (sym c.deref.ensures.value) c.self.invariant.rows))
