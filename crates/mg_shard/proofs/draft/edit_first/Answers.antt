use Rattle.std.proofs.Common.{◌≡◌, None, ap, sym, ◌∙◌, subst}
use Rattle.mg_pages.proofs.Levels.{on_err_when}
use Rattle.mg_doc.specs.Applied.{refusal_in}
use Rattle.mg_doc.specs.Document.{Edit}
use Rattle.mg_doc.specs.Edit.{first_refusal, outcome_of}
use Rattle.mg_shard.specs.Draft.{TouchedStandFor, Touches, touched_of}
use Rattle.mg_shard.specs.Edits.{first_refusal_in, id_in, outcome_view}
use Rattle.mg_shard.specs.Histories.{Histories, history_at}
use Rattle.mg_shard.proofs.Touched.{first_stands, known_stands, not_foreseen, reply_refused, reply_stands, tree_before}
use Rattle.mg_shard.proofs.draft.edit_first.Goals as goal

pub returns-in-Ok-Known-clause-outcome : goal.returns-in-Ok-Known-clause-outcome
returns-in-Ok-Known-clause-outcome c = λ hs st.
    let ts = touched_of c.args.touched.now.entries in
    let e = c.args.edit in
    let tree = tree_before c.args.shard.now.documents ts e c.id_in.result.now c.id_in.ensures c.new-empty.result c.tree_or-before.result.now c.tree_or-before.ensures c.requires hs c.new-empty.ensures st in
    let known = rw c.in-Ok-Known.field-0-is at (c.in-Ok-Known.ensures.foreseen (history_at hs (id_in e)) tree) in
    sym known.1

pub returns-in-Ok-Known-clause-stands : goal.returns-in-Ok-Known-clause-stands
returns-in-Ok-Known-clause-stands c = λ hs st.
    let ds = c.args.shard.now.documents in
    let ts = touched_of c.args.touched.now.entries in
    let e = c.args.edit in
    let none = c.new-empty.result in
    let before = c.tree_or-before.result.now in
    let tree = tree_before ds ts e c.id_in.result.now c.id_in.ensures none before c.tree_or-before.ensures c.requires hs c.new-empty.ensures st in
    let known = rw c.in-Ok-Known.field-0-is at (c.in-Ok-Known.ensures.foreseen (history_at hs (id_in e)) tree) in
    known_stands ds ts e c.id_in.result.now c.id_in.ensures none before c.tree_or-before.ensures c.requires hs c.in-Ok-Known.rev known.0 known.1 known.2 st

pub touch-requires : goal.touch-requires
touch-requires c = λ h st. rw c.in-Ok-Ready.field-0-is at (c.in-Ok-Ready.ensures.foreseen h st)

pub returns-in-Ok-Ready-clause-outcome : goal.returns-in-Ok-Ready-clause-outcome
returns-in-Ok-Ready-clause-outcome c = λ hs st.
    let ts = touched_of c.args.touched.now.entries in
    let e = c.args.edit in
    let h = history_at hs (id_in e) in
    let tree = tree_before c.args.shard.now.documents ts e c.id_in.result.now c.id_in.ensures c.new-empty.result c.tree_or-before.result.now c.tree_or-before.ensures c.requires hs c.new-empty.ensures st in
    let same = rw c.in-Ok-Ready.field-0-is at c.in-Ok-Ready.ensures.edit in
    c.in_ok-touch-in-Ok-Ready.ensures.outcome h tree ∙ ap (outcome_of h) same

pub returns-in-Ok-Ready-clause-stands : goal.returns-in-Ok-Ready-clause-stands
returns-in-Ok-Ready-clause-stands c = λ hs st.
    let ds = c.args.shard.now.documents in
    let ts = touched_of c.args.touched.now.entries in
    let us = touched_of c.touch.new.touched.entries in
    let e = c.args.edit in
    let h = history_at hs (id_in e) in
    let tree = tree_before ds ts e c.id_in.result.now c.id_in.ensures c.new-empty.result c.tree_or-before.result.now c.tree_or-before.ensures c.requires hs c.new-empty.ensures st in
    let same = rw c.in-Ok-Ready.field-0-is at c.in-Ok-Ready.ensures.edit in
    let r = outcome_view c.in_ok-touch-in-Ok-Ready.field-0 in
    let P : Edit → Type 0 = λ x. Touches h x r ts us in
    first_stands ds ts us hs e r (c.in_ok-touch-in-Ok-Ready.ensures.outcome h tree ∙ ap (outcome_of h) same) (subst P same (c.in_ok-touch-in-Ok-Ready.ensures.touched h tree)) st

pub returns-clause-outcome : goal.returns-clause-outcome
returns-clause-outcome c = λ hs st.
    let ts = touched_of c.args.touched.now.entries in
    let e = c.args.edit in
    let h = history_at hs (id_in e) in
    let tree = tree_before c.args.shard.now.documents ts e c.id_in.result.now c.id_in.ensures c.new-empty.result c.tree_or-before.result.now c.tree_or-before.ensures c.requires hs c.new-empty.ensures st in
    (reply_refused h e (refusal_in c.in-Err.error) (outcome_view c.in_ok-reply_of-in-Err.field-0) c.in_ok-reply_of-in-Err.ensures.reply (c.in-Err.ensures.foreseen h tree)).0

pub returns-clause-stands : goal.returns-clause-stands
returns-clause-stands c = λ hs st.
    let ds = c.args.shard.now.documents in
    let ts = touched_of c.args.touched.now.entries in
    let e = c.args.edit in
    let tree = tree_before ds ts e c.id_in.result.now c.id_in.ensures c.new-empty.result c.tree_or-before.result.now c.tree_or-before.ensures c.requires hs c.new-empty.ensures st in
    reply_stands ds ts hs e (refusal_in c.in-Err.error) (outcome_view c.in_ok-reply_of-in-Err.field-0) c.in_ok-reply_of-in-Err.ensures.reply (c.in-Err.ensures.foreseen (history_at hs (id_in e)) tree) st

pub returns-in_err-touch-in-Ok-Ready-clause-foreseen : goal.returns-in_err-touch-in-Ok-Ready-clause-foreseen
returns-in_err-touch-in-Ok-Ready-clause-foreseen c = on_err_when {P = (hs : Histories) → TouchedStandFor c.args.shard.now.documents (touched_of c.args.touched.now.entries) hs → first_refusal_in hs c.args.edit ≡ None} c.from_residual.result (λ hs st.
    let ts = touched_of c.args.touched.now.entries in
    let e = c.args.edit in
    let h = history_at hs (id_in e) in
    let tree = tree_before c.args.shard.now.documents ts e c.id_in.result.now c.id_in.ensures c.new-empty.result c.tree_or-before.result.now c.tree_or-before.ensures c.requires hs c.new-empty.ensures st in
    let same = rw c.in-Ok-Ready.field-0-is at c.in-Ok-Ready.ensures.edit in
    let ready = rw c.in-Ok-Ready.field-0-is at (c.in-Ok-Ready.ensures.foreseen h tree) in
    let P : Edit → Type 0 = λ x. first_refusal h x.change ≡ None in
    subst P same ready.0)

pub returns-in_err-reply_of-in-Err-clause-foreseen : goal.returns-in_err-reply_of-in-Err-clause-foreseen
returns-in_err-reply_of-in-Err-clause-foreseen c = on_err_when {P = (hs : Histories) → TouchedStandFor c.args.shard.now.documents (touched_of c.args.touched.now.entries) hs → first_refusal_in hs c.args.edit ≡ None} c.from_residual-in_err-reply_of-in-Err.result (λ hs st.
    let ts = touched_of c.args.touched.now.entries in
    let e = c.args.edit in
    let tree = tree_before c.args.shard.now.documents ts e c.id_in.result.now c.id_in.ensures c.new-empty.result c.tree_or-before.result.now c.tree_or-before.ensures c.requires hs c.new-empty.ensures st in
    not_foreseen (history_at hs (id_in e)) e (refusal_in c.in-Err.error) c.in_err-reply_of-in-Err.ensures.err (c.in-Err.ensures.foreseen (history_at hs (id_in e)) tree))
