use Rattle.std.proofs.Common.{◌≡◌, None, ap, refl, sym, ◌∙◌, subst}
use Rattle.mg_pages.proofs.Levels.{on_err_when}
use Rattle.mg_revtree.specs.History.{Paths}
use Rattle.mg_revtree.specs.Tree.{StandsFor}
use Rattle.mg_doc.specs.Applied.{refusal_in}
use Rattle.mg_doc.specs.Document.{Edit}
use Rattle.mg_doc.specs.Edit.{edited, first_refusal, outcome_of}
use Rattle.mg_shard.specs.Edits.{outcome_view}
use Rattle.mg_shard.proofs.Touched.{not_foreseen, refused_tree, reply_refused}
use Rattle.mg_shard.proofs.draft.edit_tree.Goals as goal

pub returns-in-Ok-Known-clause-outcome : goal.returns-in-Ok-Known-clause-outcome
returns-in-Ok-Known-clause-outcome c = λ h st. let known = rw c.in-Ok-Known.field-0-is at (c.in-Ok-Known.ensures.foreseen h st) in sym known.1

pub returns-in-Ok-Known-clause-stands : goal.returns-in-Ok-Known-clause-stands
returns-in-Ok-Known-clause-stands c = λ h st. let known = rw c.in-Ok-Known.field-0-is at (c.in-Ok-Known.ensures.foreseen h st) in known.2

pub apply_ready-requires : goal.apply_ready-requires
apply_ready-requires c = λ h st. rw c.in-Ok-Ready.field-0-is at (c.in-Ok-Ready.ensures.foreseen h st)

pub returns-in_ok-apply_ready-in-Ok-Ready-clause-outcome : goal.returns-in_ok-apply_ready-in-Ok-Ready-clause-outcome
returns-in_ok-apply_ready-in-Ok-Ready-clause-outcome c = λ h st.
    let same = rw c.in-Ok-Ready.field-0-is at c.in-Ok-Ready.ensures.edit in
    c.in_ok-apply_ready-in-Ok-Ready.ensures.outcome h st ∙ ap (outcome_of h) same

pub returns-in_ok-apply_ready-in-Ok-Ready-clause-stands : goal.returns-in_ok-apply_ready-in-Ok-Ready-clause-stands
returns-in_ok-apply_ready-in-Ok-Ready-clause-stands c = λ h st.
    let same = rw c.in-Ok-Ready.field-0-is at c.in-Ok-Ready.ensures.edit in
    let P : Edit → Type 0 = λ x. StandsFor c.apply_ready.new.tree (edited h x) in
    subst P same (c.in_ok-apply_ready-in-Ok-Ready.ensures.stands h st)

pub returns-in_err-apply_ready-in-Ok-Ready-clause-foreseen : goal.returns-in_err-apply_ready-in-Ok-Ready-clause-foreseen
returns-in_err-apply_ready-in-Ok-Ready-clause-foreseen c = on_err_when {P = (h : Paths) → StandsFor c.args.tree.now h → first_refusal h c.args.edit.change ≡ None} c.from_residual.result (λ h st.
    let same = rw c.in-Ok-Ready.field-0-is at c.in-Ok-Ready.ensures.edit in
    let ready = rw c.in-Ok-Ready.field-0-is at (c.in-Ok-Ready.ensures.foreseen h st) in
    let P : Edit → Type 0 = λ x. first_refusal h x.change ≡ None in
    subst P same ready.0)

pub returns-in_ok-reply_of-in-Err-clause-outcome : goal.returns-in_ok-reply_of-in-Err-clause-outcome
returns-in_ok-reply_of-in-Err-clause-outcome c = λ h st.
    (reply_refused h c.args.edit (refusal_in c.in-Err.error) (outcome_view c.in_ok-reply_of-in-Err.field-0) c.in_ok-reply_of-in-Err.ensures.reply (c.in-Err.ensures.foreseen h st)).0

pub returns-in_ok-reply_of-in-Err-clause-stands : goal.returns-in_ok-reply_of-in-Err-clause-stands
returns-in_ok-reply_of-in-Err-clause-stands c = λ h st.
    (refused_tree h c.args.edit (refusal_in c.in-Err.error) (outcome_view c.in_ok-reply_of-in-Err.field-0) c.args.tree.now c.args.tree.now c.in_ok-reply_of-in-Err.ensures.reply
    (c.in-Err.ensures.foreseen h st) refl st).1

pub returns-in_err-reply_of-in-Err-clause-foreseen : goal.returns-in_err-reply_of-in-Err-clause-foreseen
returns-in_err-reply_of-in-Err-clause-foreseen c = on_err_when {P = (h : Paths) → StandsFor c.args.tree.now h → first_refusal h c.args.edit.change ≡ None} c.from_residual-in_err-reply_of-in-Err.result
    (λ h st. not_foreseen h c.args.edit (refusal_in c.in-Err.error) c.in_err-reply_of-in-Err.ensures.err (c.in-Err.ensures.foreseen h st))
