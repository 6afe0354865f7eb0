use Rattle.std.proofs.Common.{◌≡◌, true, inl, inr, Err, Result, sym, subst}
use Rattle.std.proofs.lemmas.Result.{err_from_is_err_and}
use Rattle.mg_revtree.specs.Revision.{Revision}
use Rattle.mg_revtree.specs.History.{fits}
use Rattle.mg_doc.specs.Acceptance.{AcceptsAs}
use Rattle.mg_doc.specs.Conversions.{error_of_merge}
use Rattle.mg_doc.specs.Edit.{replicated}
use Rattle.mg_doc.specs.declared.error.EditError.{EditError}
use Rattle.mg_doc.proofs.Edits.{merged, not_merged}
use Rattle.mg_doc.proofs.Cases.{two}
use Rattle.mg_doc.proofs.edit.apply.merge.Goals as goal

pub returns-in_err-merge_with-clause-accepts : goal.returns-in_err-merge_with-clause-accepts
returns-in_err-merge_with-clause-accepts c = λ h stands.
    let x = c.in_err-merge_with.field-0.0 in
    let p = err_from_is_err_and c.from_residual-in_err-merge_with.result c.from_residual-in_err-merge_with.ensures.1 in
    let is : c.from_residual-in_err-merge_with.result ≡ Err (error_of_merge x) = cc (p.1, p.2) in
    let P : Result Revision EditError → Type 0 = λ r. AcceptsAs h c.args.deleted c.args.body (replicated h c.args.path.now) r c.merge_with.new.self in
    subst P (sym is) (not_merged h c.args.path.now x (λ t. c.in_err-merge_with.ensures.fitting h stands t))

pub returns-clause-accepts : goal.returns-clause-accepts
returns-clause-accepts c = λ h stands.
    let run = c.args.path.now in
    let fit : fits h run ≡ true = elim (two (fits h run)) [
      | inl t ↦ t
      | inr f ↦ absurd (let e = c.in_ok-merge_with.ensures.refused h stands f in cc)
    ] in
    merged h c.args.deleted c.args.body run c.in_ok-rev.rev c.merge_with.new.self c.in_ok-rev.ensures fit (c.in_ok-merge_with.ensures.accepted h stands)
