use Rattle.std.proofs.Common.{◌≡◌, ◌++◌, [], sym, ap, ◌∙◌, append-nil}
use Rattle.std.specs.Vec.Iter.{into_iter_items}
use Rattle.mg_shard.specs.Shard.{shards_view}
use Rattle.mg_engine.proofs.Editing.{nothing}
use Rattle.mg_engine.proofs.shards.wrap_shards.Goals as goal

pub returns : goal.returns
returns c =
    let l = c.loop-shard in
    let none : into_iter_items l.shard-iterator ≡ [] = nothing (into_iter_items l.shard-iterator) (sym l.shard-iterator.rest.ok.0 ∙ c.in-None.ensures.steps.0) in
    sym (l.invariant.built ∙ ap (λ xs. shards_view l.all.items ++ xs) none ∙ append-nil (shards_view l.all.items))
