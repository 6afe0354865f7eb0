use Rattle.std.proofs.Common.{◌≡◌, None, Some, Ok, Err, Option, Result, sym, ap, subst, ◌∙◌}
use Rattle.std.proofs.lemmas.Result.{err_from_is_err_and}
use Rattle.mg_revtree.specs.Revision.{Revision}
use Rattle.mg_doc.specs.Applied.{refusal_in}
use Rattle.mg_doc.specs.Acceptance.{AcceptsAs, HidesNone}
use Rattle.mg_doc.specs.Base.{base_found, extended_by, extended_found, extended_over}
use Rattle.mg_doc.specs.Edit.{Accepted}
use Rattle.mg_doc.specs.declared.error.EditError.{EditError}
use Rattle.mg_doc.specs.declared.error.EditRefusal.{EditRefusal}
use Rattle.mg_doc.proofs.Edits.{found_made, no_base, unnamed_first}
use Rattle.mg_doc.proofs.edit.apply.extend_unnamed.Goals as goal

pub returns-in_err-copy_base-clause-accepts : goal.returns-in_err-copy_base-clause-accepts
returns-in_err-copy_base-clause-accepts c = λ h stands.
    let x = c.in_err-copy_base.field-0.0 in
    let b = c.args.body in
    let p = err_from_is_err_and c.from_residual.result c.from_residual.ensures.1 in
    let is : c.from_residual.result ≡ Err x = cc (p.1, p.2) in
    let P : Result Revision EditError → Type 0 = λ r. AcceptsAs h c.args.deleted b (extended_by h c.args.deleted b None) r c.args.tree.now in
    subst P (sym is) (no_base h c.args.deleted b None (refusal_in x) (c.in_err-copy_base.ensures.base h stands))

pub returns-in_err-copy_base-clause-refused : goal.returns-in_err-copy_base-clause-refused
returns-in_err-copy_base-clause-refused c = λ h stands none x said. let wrong = c.in_err-copy_base.ensures.none h stands (unnamed_first h none) in absurd (cc wrong)

pub returns-in-None-clause-accepts : goal.returns-in-None-clause-accepts
returns-in-None-clause-accepts c = λ h stands.
    let found = rw c.in-None.is at (c.in_ok-copy_base.ensures.base h stands) in
    found_made h c.args.deleted c.args.body None None c.extend_over.result c.extend_over.new.tree found (c.extend_over.ensures.accepts h stands)

pub returns-in-None-clause-refused : goal.returns-in-None-clause-refused
returns-in-None-clause-refused c = λ h stands none.
    let P : Result Accepted EditRefusal → Type 0 = λ s. HidesNone s c.extend_over.result in
    subst P (sym (ap (extended_found h c.args.deleted c.args.body) (unnamed_first h none))) (c.extend_over.ensures.refused h stands)

pub returns-in_ok-id-in-Some-clause-accepts : goal.returns-in_ok-id-in-Some-clause-accepts
returns-in_ok-id-in-Some-clause-accepts c = λ h stands.
    let found = rw c.in-Some.is at (c.in_ok-copy_base.ensures.base h stands) in
    found_made h c.args.deleted c.args.body None (Some c.in-Some.base) c.extend_over-in-Some.result c.extend_over-in-Some.new.tree found (c.extend_over-in-Some.ensures.accepts h stands)

pub returns-in_ok-id-in-Some-clause-refused : goal.returns-in_ok-id-in-Some-clause-refused
returns-in_ok-id-in-Some-clause-refused c = λ h stands none.
    let found = rw c.in-Some.is at (c.in_ok-copy_base.ensures.base h stands) in
    absurd (let e : Ok (Some c.in-Some.base) ≡ Ok None = sym found ∙ unnamed_first h none in cc)

pub returns-in_err-id-in-Some-clause-refused : goal.returns-in_err-id-in-Some-clause-refused
returns-in_err-id-in-Some-clause-refused c = λ h stands none.
    let found = rw c.in-Some.is at (c.in_ok-copy_base.ensures.base h stands) in
    absurd (let e : Ok (Some c.in-Some.base) ≡ Ok None = sym found ∙ unnamed_first h none in cc)
