use Rattle.std.proofs.Common.{◌≡◌, List, [], sym, ◌∙◌, subst, append-nil}
use Rattle.std.specs.Vec.Iter.{into_iter_items}
use Rattle.mg_shard.specs.Draft.{DraftView}
use Rattle.mg_shard.specs.Shard.{ShardView, shards_view}
use Rattle.mg_engine.specs.StateView.{AllFinishAs}
use Rattle.mg_engine.proofs.Editing.{nothing}
use Rattle.mg_engine.proofs.bulk.apply.finish_drafts.Goals as goal

pub returns : goal.returns
returns c =
    let l = c.loop-draft in
    let none : into_iter_items l.draft-iterator ≡ [] = nothing (into_iter_items l.draft-iterator) (sym l.draft-iterator.rest.ok.0 ∙ c.in-None.ensures.steps.0) in
    subst (λ (ss : List ShardView). AllFinishAs c.args.drafts.items ss) (append-nil (shards_view l.next_shards.items)) (l.invariant.goes_on [] (subst (λ (ds : List DraftView). AllFinishAs ds []) (sym none) tt))
