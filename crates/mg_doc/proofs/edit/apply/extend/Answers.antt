use Rattle.std.proofs.Common.{◌≡◌, Option, option_copied, sym, ap, subst}
use Rattle.mg_revtree.specs.Revision.{Revision}
use Rattle.mg_doc.specs.Acceptance.{AcceptsAs, HidesNone}
use Rattle.mg_doc.specs.Base.{extended_by}
use Rattle.mg_doc.specs.Edit.{base_of}
use Rattle.mg_doc.proofs.edit.apply.extend.Goals as goal

pub returns-in-Some-clause-accepts : goal.returns-in-Some-clause-accepts
returns-in-Some-clause-accepts c = λ h stands.
    let b = c.args.body in
    let Q : Option Revision → Type 0 = λ n. AcceptsAs h c.args.deleted b (extended_by h c.args.deleted b n) c.extend_over.result c.extend_over.new.tree in
    subst Q (sym (ap option_copied c.in-Some.is)) (c.extend_over.ensures.accepts h stands)

pub returns-in-Some-clause-refused : goal.returns-in-Some-clause-refused
returns-in-Some-clause-refused c = λ h stands based.
    let Q : Option Revision → Type 0 = λ n. HidesNone (extended_by h c.args.deleted c.args.body n) c.extend_over.result in
    subst Q (sym (ap option_copied c.in-Some.is)) (c.extend_over.ensures.refused h stands)

pub returns-in-None-clause-accepts : goal.returns-in-None-clause-accepts
returns-in-None-clause-accepts c = λ h stands.
    let b = c.args.body in
    let Q : Option Revision → Type 0 = λ n. AcceptsAs h c.args.deleted b (extended_by h c.args.deleted b n) c.extend_unnamed.result c.extend_unnamed.new.tree in
    subst Q (sym (ap option_copied c.in-None.is)) (c.extend_unnamed.ensures.accepts h stands)

pub returns-in-None-clause-refused : goal.returns-in-None-clause-refused
returns-in-None-clause-refused c = λ h stands based.
    let Q : Option Revision → Type 0 = λ n. HidesNone (extended_by h c.args.deleted c.args.body n) c.extend_unnamed.result in
    let B : Option Revision → Type 0 = λ n. base_of h n ≡ n in
    subst Q (sym (ap option_copied c.in-None.is)) (c.extend_unnamed.ensures.refused h stands (subst B (ap option_copied c.in-None.is) based))
