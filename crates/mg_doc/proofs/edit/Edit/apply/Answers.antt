use Rattle.std.proofs.Common.{◌≡◌, Option, Ok, Err, Result, sym, subst}
use Rattle.std.proofs.lemmas.Result.{err_from_is_err_and}
use Rattle.mg_revtree.specs.Revision.{Revision}
use Rattle.mg_doc.specs.Applied.{Applied, Foreseen, IsReady}
use Rattle.mg_doc.specs.Base.{look_of}
use Rattle.mg_doc.specs.Document.{Edit}
use Rattle.mg_doc.specs.declared.error.EditError.{EditError}
use Rattle.mg_doc.specs.declared.error.EditError.TheVariants.{NoMemory}
use Rattle.mg_doc.proofs.edit.Edit.apply.Goals as goal

pub returns-in_err-rev-clause-applied : goal.returns-in_err-rev-clause-applied
returns-in_err-rev-clause-applied c = λ h stands.
    let x = c.in_err-rev.field-0.0 in
    let p = err_from_is_err_and c.from_residual.result c.from_residual.ensures.1 in
    let is : c.from_residual.result ≡ Err x = cc (p.1, p.2) in
    let P : Result Revision EditError → Type 0 = λ r. Applied h c.args.self.now r c.args.tree.now in
    subst P (sym is) (c.in_err-rev.ensures h stands)

pub returns-in-Some-clause-applied : goal.returns-in-Some-clause-applied
returns-in-Some-clause-applied c = λ h stands.
    let P : Option Revision → Type 0 = λ o. Foreseen h c.args.self.now (Ok (look_of c.args.self.now o)) c.args.tree.now in
    let known = subst P c.in-Some.is (c.in_ok-rev.ensures h stands) in
    (known.1, known.2)

pub returns-in_err-edit-clause-applied : goal.returns-in_err-edit-clause-applied
returns-in_err-edit-clause-applied c = λ h stands.
    let p = err_from_is_err_and c.from_residual-in_err-edit.result c.from_residual-in_err-edit.ensures.1 in
    let is : c.from_residual-in_err-edit.result ≡ Err NoMemory = cc (p.1, p.2) in
    let P : Result Revision EditError → Type 0 = λ r. Applied h c.args.self.now r c.args.tree.now in
    let Q : Option Revision → Type 0 = λ o. Foreseen h c.args.self.now (Ok (look_of c.args.self.now o)) c.args.tree.now in
    subst P (sym is) (subst Q c.in_default.is (c.in_ok-rev.ensures h stands)).0

pub apply-requires : goal.apply-requires
apply-requires c = λ h stands.
    let Q : Option Revision → Type 0 = λ o. Foreseen h c.args.self.now (Ok (look_of c.args.self.now o)) c.args.tree.now in
    let R : Edit → Type 0 = IsReady h in
    subst R (sym c.in_ok-edit.ensures) (subst Q c.in_default.is (c.in_ok-rev.ensures h stands))
