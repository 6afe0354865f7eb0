use Rattle.std.proofs.Common.{◌≡◌, ℕ, List, Option, Some, map, sym, ap, ◌∙◌, subst}
use Rattle.mg_value.specs.Value.{list}
use Rattle.mg_doc.specs.Document.{Edit}
use Rattle.mg_shard.specs.Dealt.{ShardsStandFor}
use Rattle.mg_shard.specs.Edits.{after_edits, id_in, outcomes}
use Rattle.mg_shard.specs.Histories.{Histories}
use Rattle.mg_shard.specs.Shard.{ShardView, shards_view}
use Rattle.mg_engine.specs.Bodies.{line_of}
use Rattle.mg_engine.specs.Bulk.{counter_after, entries_of, numbered}
use Rattle.mg_engine.specs.Commands.{Answer}
use Rattle.mg_engine.specs.Outcomes.{entries_view, reply_in, id_view}
use Rattle.mg_engine.specs.Stands.{StateStandsFor, StateView, definitions_of}
use Rattle.mg_engine.specs.declared.bulk.apply.EditOutcome.{EditOutcome}
use Rattle.mg_engine.proofs.Entries.{by_ids}
use Rattle.mg_engine.proofs.Indexes.{have_same}
use Rattle.mg_engine.proofs.Objects.{still_objects}
use Rattle.mg_engine.proofs.state.State.accept.Goals as goal

abbrev answer : List ℕ → Option Answer
answer t = Some (record { status = 201; body = t })

pub returns-clause-holds : goal.returns-clause-holds
returns-clause-holds g c = λ w bring h.
    let place = g.P.Placement.place c.args.placement.now in
    let given = c.args.edits.items in
    let made = shards_view c.in_ok-outcomes.shards.items in
    let counter : c.self.inside.counter ≡ w.counter = ap (λ (s : StateView). s.counter) c.self.view_is ∙ h.counter in
    let shards : shards_view c.deref.result.now ≡ c.args.self.now.shards = ap shards_view c.deref.ensures.value ∙ ap (λ (s : StateView). s.shards) c.self.view_is in
    let edits = c.in_ok-edits.ensures.edits ∙ ap (λ n. numbered n given) counter in
    let before = subst (λ (ss : List ShardView). ShardsStandFor place ss w.docs) (sym shards) h.documents in
    subst (λ (s : StateView). StateStandsFor place s (record w { docs = after_edits w.docs (numbered w.counter given); counter = counter_after w.counter given })) (sym c.in_ok-next.ensures)
    (record {
      name = h.name;
      documents = subst (λ (hs : Histories). ShardsStandFor place made hs) (ap (after_edits w.docs) edits) (c.in_ok-outcomes.ensures.stands w.docs before);
      indexes = h.indexes;
      rows = have_same w.indexes made c.args.self.now.shards (c.in_ok-outcomes.ensures.definitions ∙ ap definitions_of shards) h.rows;
      counter = c.in_ok-edits.ensures.last ∙ ap (λ n. counter_after n given) counter;
      objects = still_objects w.docs w.counter given h.objects bring;
    })

pub returns-clause-reply : goal.returns-clause-reply
returns-clause-reply g c = λ w h.
    let place = g.P.Placement.place c.args.placement.now in
    let given = c.args.edits.items in
    let b = c.args.new_edits in
    let outs = c.in_ok-outcomes.outcomes.items in
    let counter : c.self.inside.counter ≡ w.counter = ap (λ (s : StateView). s.counter) c.self.view_is ∙ h.counter in
    let shards : shards_view c.deref.result.now ≡ c.args.self.now.shards = ap shards_view c.deref.ensures.value ∙ ap (λ (s : StateView). s.shards) c.self.view_is in
    let edits = c.in_ok-edits.ensures.edits ∙ ap (λ n. numbered n given) counter in
    let before = subst (λ (ss : List ShardView). ShardsStandFor place ss w.docs) (sym shards) h.documents in
    let replies : map reply_in outs ≡ outcomes w.docs (numbered w.counter given) = c.in_ok-outcomes.ensures.replies w.docs before ∙ ap (outcomes w.docs) edits in
    let ids : map id_view outs ≡ map id_in (numbered w.counter given) = c.in_ok-outcomes.ensures.ids ∙ ap (λ (es : List Edit). map id_in es) edits in
    let seen : entries_view b outs ≡ entries_of b (numbered w.counter given) (outcomes w.docs (numbered w.counter given)) =
    sym (by_ids b (numbered w.counter given) outs (sym ids)) ∙ ap (entries_of b (numbered w.counter given)) replies in
    ap (λ (t : List ℕ). answer t) (c.in_ok-body.ensures ∙ ap (λ (os : List EditOutcome). line_of (list (entries_view b os))) c.deref-2.ensures.value ∙ ap (λ vs. line_of (list vs)) seen)
