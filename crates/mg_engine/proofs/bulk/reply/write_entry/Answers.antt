use Rattle.std.proofs.Common.{◌≡◌, ℕ, List, ◌++◌, Option, Some, codes, sym, ap, ◌∙◌}
use Rattle.mg_value.specs.Held.{items_tokens_of, tokens_of}
use Rattle.mg_value.specs.Value.{Value}
use Rattle.mg_shard.specs.Edits.{outcome_view}
use Rattle.mg_shard.specs.declared.reply.EditReply.{EditReply}
use Rattle.mg_engine.specs.Bulk.{entry_before, entry_of, refused_entry}
use Rattle.mg_engine.specs.Outcomes.{reply_in, id_view}
use Rattle.mg_engine.proofs.Entries.{bad_history_has_entry, conflict_has_entry, tokens_before}
use Rattle.mg_engine.proofs.bulk.reply.write_entry.Goals as goal

pub returns-in_ok-write_refused-in-Conflict-clause-tokens : goal.returns-in_ok-write_refused-in-Conflict-clause-tokens
returns-in_ok-write_refused-in-Conflict-clause-tokens c = λ vs.
    let b = c.args.new_edits in
    let id = id_view c.args.outcome.now in
    let before = c.args.out.now.tokens in
    let entry = λ (i : List ℕ). refused_entry (codes "conflict") i (codes "Document update conflict.") in
    let has_entry : entry_of b id (reply_in c.args.outcome.now) ≡ Some (entry id) = ap (λ (r : EditReply). entry_of b id (outcome_view r)) c.in-Conflict.is ∙ conflict_has_entry b id in
    let written : c.write_refused.new.out.tokens ≡ before ++ tokens_of (entry id) =
    c.in_ok-write_refused-in-Conflict.ensures.tokens ∙ ap (λ (i : List ℕ). before ++ tokens_of (entry i)) c.as_str-id.ensures.value in
    tokens_before before c.write_refused.new.out.tokens (entry id) written vs ∙ ap (λ (o : Option Value). before ++ items_tokens_of (entry_before o vs)) (sym has_entry)

pub returns-in_ok-write_refused-in-BadHistory-clause-tokens : goal.returns-in_ok-write_refused-in-BadHistory-clause-tokens
returns-in_ok-write_refused-in-BadHistory-clause-tokens c = λ vs.
    let b = c.args.new_edits in
    let id = id_view c.args.outcome.now in
    let before = c.args.out.now.tokens in
    let entry = λ (i : List ℕ). refused_entry (codes "bad_history") i (codes "Revision history does not fit the document.") in
    let has_entry : entry_of b id (reply_in c.args.outcome.now) ≡ Some (entry id) = ap (λ (r : EditReply). entry_of b id (outcome_view r)) c.in-BadHistory.is ∙ bad_history_has_entry b id in
    let written : c.write_refused-in-BadHistory.new.out.tokens ≡ before ++ tokens_of (entry id) =
    c.in_ok-write_refused-in-BadHistory.ensures.tokens ∙ ap (λ (i : List ℕ). before ++ tokens_of (entry i)) c.as_str-id.ensures.value in
    tokens_before before c.write_refused-in-BadHistory.new.out.tokens (entry id) written vs ∙ ap (λ (o : Option Value). before ++ items_tokens_of (entry_before o vs)) (sym has_entry)
