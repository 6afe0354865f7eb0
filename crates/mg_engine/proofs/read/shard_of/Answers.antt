use Rattle.std.proofs.Common.{◌≡◌, Some, Global, length, slice_get, sym, ap, ◌∙◌}
use Rattle.std.proofs.lemmas.List.{length-map}
use Rattle.std.specs.Arc.{arc_value}
use Rattle.std.specs.declared.sync.Arc.{Arc}
use Rattle.mg_shard.specs.Shard.{ShardView, shards_view}
use Rattle.mg_engine.proofs.Editing.{shard_at}
use Rattle.mg_engine.proofs.read.shard_of.Goals as goal

pub returns : goal.returns
returns g c =
    let place = g.P.Placement.place c.args.placement.now in
    let id = c.args.id.now in
    let items = c.args.shards.now in
    let i = c.shard_of-place.result in
    let x = c.index-shards-place.result in
    let long : length (shards_view items) ≡ length items = length-map items (λ (a : Arc ShardView Global). arc_value a) in
    let here : place id (length (shards_view items)) ≡ i = ap (place id) long ∙ sym c.shard_of-place.ensures.place in
    ap (slice_get (shards_view items)) here ∙ shard_at items i x c.shard_of-place.ensures.below c.index-shards-place.is ∙ ap Some (sym c.deref.ensures)
