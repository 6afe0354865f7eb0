use Rattle.std.proofs.Common.{◌≡◌, Option, Ok, Err, Result, sym, subst}
use Rattle.std.proofs.lemmas.Result.{err_from_is_err_and}
use Rattle.mg_revtree.specs.Revision.{Revision}
use Rattle.mg_doc.specs.Applied.{Foreseen}
use Rattle.mg_doc.specs.Base.{look_of}
use Rattle.mg_doc.specs.declared.edit.apply.Look.{Look}
use Rattle.mg_doc.specs.declared.error.EditError.{EditError}
use Rattle.mg_doc.proofs.edit.Edit.look.Goals as goal

pub returns-in_err-rev-clause-foreseen : goal.returns-in_err-rev-clause-foreseen
returns-in_err-rev-clause-foreseen c = λ h stands.
    let x = c.in_err-rev.field-0.0 in
    let p = err_from_is_err_and c.from_residual.result c.from_residual.ensures.1 in
    let is : c.from_residual.result ≡ Err x = cc (p.1, p.2) in
    let P : Result Look EditError → Type 0 = λ r. Foreseen h c.args.self r c.args.tree.now in
    subst P (sym is) (c.in_err-rev.ensures h stands)

pub returns-in-Some-clause-foreseen : goal.returns-in-Some-clause-foreseen
returns-in-Some-clause-foreseen c = λ h stands.
    let P : Option Revision → Type 0 = λ o. Foreseen h c.args.self (Ok (look_of c.args.self o)) c.args.tree.now in
    subst P c.in-Some.is (c.in_ok-rev.ensures h stands)

pub returns-in-None-clause-foreseen : goal.returns-in-None-clause-foreseen
returns-in-None-clause-foreseen c = λ h stands.
    let P : Option Revision → Type 0 = λ o. Foreseen h c.args.self (Ok (look_of c.args.self o)) c.args.tree.now in
    subst P c.in-None.is (c.in_ok-rev.ensures h stands)
