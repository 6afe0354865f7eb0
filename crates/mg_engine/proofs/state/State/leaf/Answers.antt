use Rattle.std.proofs.Common.{◌≡◌, List, sym, ap, ◌∙◌, subst}
use Rattle.std.specs.FinMap.{get}
use Rattle.std.specs.Prelude.{option_and_then}
use Rattle.mg_shard.specs.Dealt.{ShardsStandFor}
use Rattle.mg_shard.specs.Documents.{StandsAt}
use Rattle.mg_shard.specs.Shard.{ShardView, shards_view}
use Rattle.mg_engine.specs.Stands.{StateView}
use Rattle.mg_engine.proofs.state.State.leaf.Goals as goal

pub returns : goal.returns
returns g c = λ w h.
    let place = g.P.Placement.place c.args.placement.now in
    let id = c.args.id.now in
    let shards : shards_view c.deref.result.now ≡ c.args.self.now.shards = ap shards_view c.deref.ensures.value ∙ ap (λ (s : StateView). s.shards) c.self.view_is in
    let stands = subst (λ (s : List ShardView). ShardsStandFor place s w.docs) (sym shards) h.documents in
    c.in_ok-reply.ensures (get w.docs id) (subst (λ k. StandsAt id k (get w.docs id)) (ap (option_and_then (λ (s : ShardView). get s.documents id)) c.shard_of-shard.ensures)
    (c.each_id_has_its_shard.ensures place (shards_view c.deref.result.now) w.docs id stands))
