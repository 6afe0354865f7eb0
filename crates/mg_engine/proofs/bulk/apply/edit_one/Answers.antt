use Rattle.std.proofs.Common.{◌≡◌, get_or, length, slice_get, slice_set, sym, ap, ◌∙◌, subst}
use Rattle.std.proofs.lemmas.Option.{slice_get-get_or}
use Rattle.mg_shard.specs.Dealt.{DraftsStandFor}
use Rattle.mg_shard.specs.Edits.{after_edit, id_in}
use Rattle.mg_engine.proofs.Editing.{before-set}
use Rattle.mg_engine.proofs.bulk.apply.edit_one.Goals as goal

pub returns-clause-reply : goal.returns-clause-reply
returns-clause-reply g c = λ hs st.
    let place = g.P.Placement.place c.args.placement.now in
    let drafts = c.args.drafts.now in
    let i = c.shard_of-place.result in
    let d = get_or drafts i c.index-drafts-place.result in
    let here : place (id_in c.args.edit) (length drafts) ≡ i = ap (λ id. place id (length drafts)) (sym c.id_in-2.ensures) ∙ sym c.shard_of-place.ensures.place in
    let at = ap (slice_get drafts) here ∙ slice_get-get_or drafts i c.index-drafts-place.result c.shard_of-place.ensures.below in
    let there = c.its_shard_decides_each_edit.ensures place drafts hs c.args.edit d at st in
    c.in_ok-reply.ensures.outcome there.0 there.1 ∙ there.2

pub returns-clause-stands : goal.returns-clause-stands
returns-clause-stands g c = λ hs st.
    let place = g.P.Placement.place c.args.placement.now in
    let drafts = c.args.drafts.now in
    let i = c.shard_of-place.result in
    let d = get_or drafts i c.index-drafts-place.result in
    let here : place (id_in c.args.edit) (length drafts) ≡ i = ap (λ id. place id (length drafts)) (sym c.id_in-2.ensures) ∙ sym c.shard_of-place.ensures.place in
    let at = ap (slice_get drafts) here ∙ slice_get-get_or drafts i c.index-drafts-place.result c.shard_of-place.ensures.below in
    subst (λ i. DraftsStandFor place (slice_set drafts i c.apply.new.self) (after_edit hs c.args.edit)) here
    (c.its_shard_makes_each_edit.ensures place drafts hs c.args.edit d c.apply.new.self at (λ gs h. c.in_ok-reply.ensures.stands gs h) st)

pub returns-clause-before : goal.returns-clause-before
returns-clause-before g c = before-set c.args.drafts.now c.shard_of-place.result c.index-drafts-place.result c.apply.new.self c.in_ok-reply.ensures.shard c.shard_of-place.ensures.below
