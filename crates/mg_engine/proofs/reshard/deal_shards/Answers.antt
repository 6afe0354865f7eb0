use Rattle.std.proofs.Common.{◌<◌, List, ap, length, sym, subst, ◌∙◌}
use Rattle.std.proofs.lemmas.List.{length-map}
use Rattle.std.specs.Arc.{arc_value}
use Rattle.mg_shard.specs.Dealt.{ShardsStandFor}
use Rattle.mg_shard.specs.Shard.{ShardView, shards_view}
use Rattle.mg_engine.specs.Stands.{HaveRows}
use Rattle.mg_engine.proofs.Indexes.{each_has, have_rows}
use Rattle.mg_engine.proofs.reshard.deal_shards.Goals as goal

pub returns-clause-number : goal.returns-clause-number
returns-clause-number g c = ap length c.in_ok-shards.ensures ∙ c.in_ok-dealt.ensures.number

pub returns-clause-stands : goal.returns-clause-stands
returns-clause-stands g c = λ hs h.
    subst (λ (ss : List ShardView). ShardsStandFor (g.P.Placement.place c.args.placement.now) ss hs) (sym c.in_ok-shards.ensures) (c.in_ok-dealt.ensures.stands (g.P.Placement.place c.args.placement.now) hs h)

pub returns-clause-rows : goal.returns-clause-rows
returns-clause-rows g c = λ ds some h.
    let one : 0 < length (shards_view c.args.shards.now) = subst (λ n. 0 < n) (sym (length-map c.args.shards.now arc_value)) some in
    let dealt = c.in_ok-dealt.ensures.indexes ds one (each_has ds (shards_view c.args.shards.now) h) in
    subst (λ (ss : List ShardView). HaveRows ds ss) (sym c.in_ok-shards.ensures) (have_rows ds c.in_ok-dealt.dealt.items dealt)
