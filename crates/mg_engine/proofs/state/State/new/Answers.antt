use Rattle.std.proofs.Common.{◌≡◌, ◌<◌, Global, List, [], length, replicate, slice_get, string_bytes, sym, ap, ◌∙◌, subst, refl}
use Rattle.std.proofs.lemmas.List.{length-map, length-replicate}
use Rattle.std.specs.Arc.{arc_value}
use Rattle.std.specs.declared.sync.Arc.{Arc}
use Rattle.mg_index.specs.Definition.{IndexDefinition}
use Rattle.mg_shard.specs.Shard.{ShardView, shards_view}
use Rattle.mg_engine.specs.Stands.{HaveRows}
use Rattle.mg_engine.specs.StateView.{empty_shard}
use Rattle.mg_engine.proofs.Indexes.{each_empty, no_rows}
use Rattle.mg_engine.proofs.Objects.{none_at_first}
use Rattle.mg_engine.proofs.state.State.new.Goals as goal

pub invariant_of-result : goal.invariant_of-result
invariant_of-result c =
    let items = c.in_ok-shards.shards.items in
    let shards : shards_view items ≡ replicate c.args.shards empty_shard = c.in_ok-shards.ensures in
    let catalog : arc_value c.in_ok-catalog.catalog ≡ [] = c.in_ok-catalog.ensures.ok ∙ c.new-2.ensures in
    let long : length items ≡ c.args.shards = sym (length-map items (λ (a : Arc ShardView Global). arc_value a)) ∙ ap length shards ∙ length-replicate c.args.shards empty_shard in
    record {
      some = subst (λ n. 0 < n) (sym long) c.requires;
      rows = subst (λ (ds : List IndexDefinition). HaveRows ds (shards_view items)) (sym catalog) (subst (λ (ss : List ShardView). HaveRows [] ss) (sym shards) (no_rows c.args.shards));
    }

pub returns-clause-stands : goal.returns-clause-stands
returns-clause-stands c = λ place.
    let items = c.in_ok-shards.shards.items in
    let shards : shards_view items ≡ replicate c.args.shards empty_shard = c.in_ok-shards.ensures in
    record {
      name = ap string_bytes c.in_ok-name.ensures.ok ∙ c.in_ok-from_str.ensures.ok;
      documents = c.nothing_is_dealt.ensures place (shards_view items) (λ i s at. each_empty c.args.shards i s (sym (ap (λ ss. slice_get ss i) shards) ∙ at));
      indexes = c.in_ok-catalog.ensures.ok ∙ c.new-2.ensures;
      rows = subst (λ (ss : List ShardView). HaveRows [] ss) (sym shards) (no_rows c.args.shards);
      counter = refl;
      objects = none_at_first;
    }
