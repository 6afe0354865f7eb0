use Rattle.std.proofs.Common.{◌≡◌, Err, option_copied, string_bytes, length, ap, ◌∙◌}
use Rattle.std.proofs.lemmas.Result.{err_from_is_err_and}
use Rattle.mg_doc.specs.Conversions.{error_of_tree}
use Rattle.mg_doc.proofs.Digests.{length-digest}
use Rattle.mg_doc.proofs.Edits.{extended_over_base, no_refusal, not_refused_over, refused_over}
use Rattle.mg_doc.proofs.edit.apply.extend_over.Goals as goal

pub returns-clause-accepts : goal.returns-clause-accepts
returns-clause-accepts c = λ h stands.
    let base = option_copied c.args.base in
    let id = string_bytes c.args.id in
    let t = c.extend_with.new.self in
    extended_over_base h c.args.deleted c.args.body base id c.in_ok-copy_of.field-0 c.position_over.result t c.requires (c.in_ok-copy_of.ensures.copy ∙ c.deref.ensures) (no_refusal _ _ (c.in_ok-extend_with.ensures.decided h stands)) c.position_over.ensures
    (c.in_ok-extend_with.ensures.accepted h stands)

pub returns-clause-refused : goal.returns-clause-refused
returns-clause-refused c = λ h stands x said.
    absurd (not_refused_over h c.args.deleted c.args.body (option_copied c.args.base) (string_bytes c.args.id) x c.requires (no_refusal _ _ (c.in_ok-extend_with.ensures.decided h stands)) said)

pub returns-in_err-copy_of-clause-refused : goal.returns-in_err-copy_of-clause-refused
returns-in_err-copy_of-clause-refused c = λ h stands x said.
    let wrong = c.in_err-copy_of.ensures.inline (ap length (c.deref.ensures ∙ c.requires) ∙ length-digest c.args.deleted (option_copied c.args.base) c.args.body) in
    absurd (cc wrong)

pub returns-in_err-extend_with-clause-refused : goal.returns-in_err-extend_with-clause-refused
returns-in_err-extend_with-clause-refused c = λ h stands x said.
    let y = c.in_err-extend_with.field-0.0 in
    let p = err_from_is_err_and c.from_residual-in_err-extend_with.result c.from_residual-in_err-extend_with.ensures.1 in
    let is : c.from_residual-in_err-extend_with.result ≡ Err (error_of_tree y) = cc (p.1, p.2) in
    is ∙ ap Err (refused_over h c.args.deleted c.args.body (option_copied c.args.base) (string_bytes c.args.id) y x c.requires (c.in_err-extend_with.ensures.decided h stands) said)
