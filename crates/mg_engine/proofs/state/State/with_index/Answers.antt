use Rattle.std.proofs.Common.{◌≡◌, List, map, sym, ap, ◌∙◌, subst}
use Rattle.std.specs.Arc.{arc_value}
use Rattle.mg_index.specs.Catalog.{with_definition}
use Rattle.mg_index.specs.Definition.{IndexDefinition}
use Rattle.mg_shard.specs.Shard.{ShardView, shards_view}
use Rattle.mg_scan.specs.Built.{with_index}
use Rattle.mg_engine.specs.Stands.{HaveRows}
use Rattle.mg_engine.proofs.Indexes.{rows_with}
use Rattle.mg_engine.proofs.state.State.with_index.Goals as goal

pub with_catalog-requires-clause-rows : goal.with_catalog-requires-clause-rows
with_catalog-requires-clause-rows g c =
    let d = c.args.definition in
    let ds = arc_value c.self.inside.catalog in
    let ss = shards_view c.self.inside.shards.items in
    let shards : shards_view c.in_ok-shards.shards.items ≡ map (with_index d) ss = c.in_ok-shards.ensures ∙ ap (λ xs. map (with_index d) (shards_view xs)) c.deref.ensures.value in
    let catalog : c.add.new.self ≡ with_definition d ds = c.in_ok-add.ensures.ok ∙ ap (with_definition d) (c.in_ok-catalog.ensures ∙ c.deref-2.ensures) in
    subst (λ (ds : List IndexDefinition). HaveRows ds (shards_view c.in_ok-shards.shards.items)) (sym catalog)
    (subst (λ (ss : List ShardView). HaveRows (with_definition d ds) ss) (sym shards) (rows_with d ds ss c.self.invariant.rows))
