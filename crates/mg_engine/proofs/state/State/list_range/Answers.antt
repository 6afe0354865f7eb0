use Rattle.std.proofs.Common.{◌≡◌, List, sym, ap, ◌∙◌, subst}
use Rattle.mg_index.specs.Definition.{IndexDefinition}
use Rattle.mg_query.proofs.Indexed.{have_all}
use Rattle.mg_shard.specs.Dealt.{ShardsStandFor}
use Rattle.mg_shard.specs.Shard.{HaveIndexes, ShardView, shards_view}
use Rattle.mg_engine.specs.Questions.{range_answer}
use Rattle.mg_engine.specs.QuestionView.{listing_view}
use Rattle.mg_engine.specs.Stands.{StateView}
use Rattle.mg_engine.proofs.Objects.{have_ids_and_revs}
use Rattle.mg_engine.proofs.state.State.list_range.Goals as goal

pub range_line-line-requires-clause-indexes : goal.range_line-line-requires-clause-indexes
range_line-line-requires-clause-indexes g c = λ κs within.
    let catalog : c.args.self.now.catalog ≡ c.deref.result.now = sym (c.deref.ensures ∙ ap (λ (s : StateView). s.catalog) c.self.view_is) in
    subst (λ (ds : List IndexDefinition). HaveIndexes ds (shards_view c.indexed_shards.result.now)) catalog (have_all c.args.self.now.catalog (shards_view c.indexed_shards.result.now) c.indexed_shards.ensures.rows)

pub returns : goal.returns
returns g c = λ place w h.
    let catalog : w.indexes ≡ c.deref.result.now = sym (c.deref.ensures ∙ ap (λ (s : StateView). s.catalog) c.self.view_is ∙ h.indexes) in
    let documents = subst (λ (ss : List ShardView). ShardsStandFor place ss w.docs) (sym c.indexed_shards.ensures.shards) h.documents in
    c.in_ok-reply.ensures (range_answer w (listing_view c.args.listing.now)) (c.range_line-line.ensures place w documents (have_ids_and_revs w.docs h.objects) catalog)
