use Rattle.std.proofs.Common.{◌≡◌, List, drop, length, sym, ap, ◌∙◌, subst}
use Rattle.mg_shard.specs.Dealt.{DraftsStandFor}
use Rattle.mg_shard.specs.Draft.{DraftView}
use Rattle.mg_engine.specs.Stands.{definitions_of}
use Rattle.mg_engine.specs.StateView.{AllFinishAs, before}
use Rattle.mg_shard.specs.Shard.{shards_view}
use Rattle.mg_engine.proofs.Editing.{before-fresh, fresh_stand, left_definitions, left_stand, same_number, written}
use Rattle.mg_engine.proofs.bulk.apply.apply_edits.Goals as goal

pub finish_drafts-requires : goal.finish_drafts-requires
finish_drafts-requires g c =
    let new = c.edit_all.new.drafts in
    let old = c.in_ok-drafts.drafts.items in
    let number : length new ≡ length c.deref_mut.result.now = same_number new c.deref_mut.result.now c.in_ok-replies.ensures.before in
    let long : c.in_ok-drafts.drafts.len ≡ length new = c.in_ok-drafts.drafts.ok.0 ∙ ap length (sym c.deref_mut.ensures.value) ∙ sym number in
    ap before (written new (drop (length new) old) c.in_ok-drafts.drafts.len long)
    ∙ c.in_ok-replies.ensures.before ∙ ap before (c.deref_mut.ensures.value ∙ c.in_ok-drafts.ensures) ∙ before-fresh (shards_view c.args.shards.now)

pub returns-clause-replies : goal.returns-clause-replies
returns-clause-replies g c = λ hs st.
    let place = g.P.Placement.place c.args.placement.now in
    let shards = shards_view c.args.shards.now in
    c.in_ok-replies.ensures.replies hs (subst (λ ds. DraftsStandFor place ds hs) (sym (c.deref_mut.ensures.value ∙ c.in_ok-drafts.ensures)) (fresh_stand place shards hs c.shards_become_drafts.ensures st))

pub returns-clause-stands : goal.returns-clause-stands
returns-clause-stands g c = λ hs st.
    let place = g.P.Placement.place c.args.placement.now in
    let shards = shards_view c.args.shards.now in
    let drafts = subst (λ ds. DraftsStandFor place ds hs) (sym (c.deref_mut.ensures.value ∙ c.in_ok-drafts.ensures)) (fresh_stand place shards hs c.shards_become_drafts.ensures st) in
    let new = c.edit_all.new.drafts in
    let old = c.in_ok-drafts.drafts.items in
    let long : c.in_ok-drafts.drafts.len ≡ length new = c.in_ok-drafts.drafts.ok.0 ∙ ap length (sym c.deref_mut.ensures.value) ∙ sym (same_number new c.deref_mut.result.now c.in_ok-replies.ensures.before) in
    let left = c.in_ok-finish_drafts.field-0.items in
    left_stand place new (shards_view left) _ c.drafts_become_shards.ensures
    (subst (λ (ds : List DraftView). AllFinishAs ds (shards_view left)) (written new (drop (length new) old) c.in_ok-drafts.drafts.len long) c.in_ok-finish_drafts.ensures)
    (c.in_ok-replies.ensures.stands hs drafts)

pub returns-clause-definitions : goal.returns-clause-definitions
returns-clause-definitions g c =
    let new = c.edit_all.new.drafts in
    let old = c.in_ok-drafts.drafts.items in
    let long : c.in_ok-drafts.drafts.len ≡ length new = c.in_ok-drafts.drafts.ok.0 ∙ ap length (sym c.deref_mut.ensures.value) ∙ sym (same_number new c.deref_mut.result.now c.in_ok-replies.ensures.before) in
    let left = c.in_ok-finish_drafts.field-0.items in
    left_definitions new (shards_view left) (subst (λ (ds : List DraftView). AllFinishAs ds (shards_view left)) (written new (drop (length new) old) c.in_ok-drafts.drafts.len long) c.in_ok-finish_drafts.ensures)
    ∙ ap definitions_of (c.in_ok-replies.ensures.before ∙ ap before (c.deref_mut.ensures.value ∙ c.in_ok-drafts.ensures) ∙ before-fresh (shards_view c.args.shards.now))
