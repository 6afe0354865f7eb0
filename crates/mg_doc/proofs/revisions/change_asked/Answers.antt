use Rattle.std.proofs.Common.{◌≡◌, codes, Option, Result, Err, sym, subst}
use Rattle.std.proofs.lemmas.Result.{err_from_is_err_and}
use Rattle.mg_value.specs.Value.{Value, get_member}
use Rattle.std.specs.Prelude.{ok_or}
use Rattle.mg_doc.specs.Document.{ReadsAs, change_by, change_given, rev_of, revisions_of}
use Rattle.mg_doc.specs.declared.change.Change.{Change}
use Rattle.mg_doc.specs.declared.error.DocError.{DocError}
use Rattle.mg_doc.specs.declared.error.DocError.TheVariants.{BadRev}
use Rattle.mg_doc.proofs.Readings.{gives_fault, none_later}
use Rattle.mg_doc.proofs.revisions.change_asked.Goals as goal

pub returns-in_err-revisions : goal.returns-in_err-revisions
returns-in_err-revisions c =
    let ms = c.args.members.now in
    let revisions = get_member (codes "_revisions") ms in
    let e = c.in_err-revisions.field-0.0 in
    let p = err_from_is_err_and c.from_residual-in_err-revisions.result c.from_residual-in_err-revisions.ensures.1 in
    let is : c.from_residual-in_err-revisions.result ≡ Err e = cc (p.1, p.2) in
    let P : Result Change DocError → Type 0 = λ r. ReadsAs (ok_or (change_given c.args.new_edit ms) BadRev) r in
    let Q : Option Value → Type 0 = λ m. ReadsAs (ok_or (revisions_of m) BadRev) (Err e) in
    subst P (sym is)
    (gives_fault BadRev (revisions_of revisions) (change_given c.args.new_edit ms) e
    (none_later (rev_of (get_member (codes "_rev") ms)) (revisions_of revisions) (change_by c.args.new_edit)) (subst Q c.get-2.ensures c.in_err-revisions.ensures))
