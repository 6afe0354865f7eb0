use Rattle.std.proofs.Common.{◌≡◌, ◌<◌, Global, List, length, sym, ap, ◌∙◌, subst}
use Rattle.std.specs.Arc.{arc_value}
use Rattle.std.specs.declared.sync.Arc.{Arc}
use Rattle.mg_index.specs.Definition.{IndexDefinition}
use Rattle.mg_shard.specs.Dealt.{ShardsStandFor}
use Rattle.mg_shard.specs.Shard.{ShardView, shards_view}
use Rattle.mg_engine.specs.Stands.{HaveRows, StateStandsFor, StateView}
use Rattle.mg_engine.proofs.state.State.over_shards.Goals as goal

pub with_shards-requires-clause-rows : goal.with_shards-requires-clause-rows
with_shards-requires-clause-rows g c =
    let ds = arc_value c.self.inside.catalog in
    let catalog : ds ≡ c.args.self.now.catalog = ap (λ (s : StateView). s.catalog) c.self.view_is in
    let given = sym c.deref.ensures.value in
    let some : 0 < length c.deref.result.now = subst (λ (xs : List (Arc ShardView Global)). 0 < length xs) given c.self.invariant.some in
    let rows : HaveRows ds (shards_view c.deref.result.now) = subst (λ (xs : List (Arc ShardView Global)). HaveRows ds (shards_view xs)) given c.self.invariant.rows in
    subst (λ (ds : List IndexDefinition). HaveRows ds (shards_view c.in_ok-shards.shards.items)) catalog (c.in_ok-shards.ensures.rows ds some rows)

pub returns-in_ok-state-2-clause-stands : goal.returns-in_ok-state-2-clause-stands
returns-in_ok-state-2-clause-stands g c = λ w h.
    let place = g.P.Placement.place c.args.placement.now in
    let given : shards_view c.deref.result.now ≡ c.args.self.now.shards = ap shards_view c.deref.ensures.value ∙ ap (λ (s : StateView). s.shards) c.self.view_is in
    let some : 0 < length c.deref.result.now = subst (λ (xs : List (Arc ShardView Global)). 0 < length xs) (sym c.deref.ensures.value) c.self.invariant.some in
    subst (λ (s : StateView). StateStandsFor place s w) (sym c.in_ok-state-2.ensures)
    (record {
      name = h.name;
      documents = c.in_ok-shards.ensures.stands w.docs (subst (λ (ss : List ShardView). ShardsStandFor place ss w.docs) (sym given) h.documents);
      indexes = h.indexes;
      rows = c.in_ok-shards.ensures.rows w.indexes some (subst (λ (ss : List ShardView). HaveRows w.indexes ss) (sym given) h.rows);
      counter = ap (λ (s : StateView). s.counter) c.self.view_is ∙ h.counter;
      objects = h.objects;
    })
