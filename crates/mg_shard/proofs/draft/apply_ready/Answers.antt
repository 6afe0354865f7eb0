use Rattle.mg_doc.specs.Applied.{refusal_in}
use Rattle.mg_shard.specs.Edits.{outcome_view}
use Rattle.mg_shard.proofs.Touched.{refused_tree, reply_refused}
use Rattle.mg_shard.proofs.draft.apply_ready.Goals as goal

pub returns-in_ok-reply_of-in-Err-clause-outcome : goal.returns-in_ok-reply_of-in-Err-clause-outcome
returns-in_ok-reply_of-in-Err-clause-outcome c = λ h st.
    (reply_refused h c.args.ready (refusal_in c.in-Err.error) (outcome_view c.in_ok-reply_of-in-Err.field-0) c.in_ok-reply_of-in-Err.ensures.reply (c.in-Err.ensures.applied h st)).0

pub returns-in_ok-reply_of-in-Err-clause-stands : goal.returns-in_ok-reply_of-in-Err-clause-stands
returns-in_ok-reply_of-in-Err-clause-stands c = λ h st.
    (refused_tree h c.args.ready (refusal_in c.in-Err.error) (outcome_view c.in_ok-reply_of-in-Err.field-0) c.args.tree.now c.apply.new.tree c.in_ok-reply_of-in-Err.ensures.reply
    (c.in-Err.ensures.applied h st) c.in-Err.ensures.unchanged st).1
