use Rattle.std.proofs.Common.{◌≡◌, ◌∙◌, Err, Option, Result, option_copied, string_bytes, sym, ap, subst}
use Rattle.mg_revtree.specs.Revision.{Revision}
use Rattle.mg_doc.specs.Applied.{Applied, IsReady, NamesItsBase}
use Rattle.mg_doc.specs.Acceptance.{AcceptsAs}
use Rattle.mg_doc.specs.Digest.{digest_of}
use Rattle.mg_doc.specs.Document.{Edit}
use Rattle.mg_doc.specs.Base.{extended_by}
use Rattle.mg_doc.specs.Edit.{Accepted, accepted_by, accepted_of, base_of, extended, outcome_of, replicated}
use Rattle.mg_doc.specs.contracts.edit.Edit.{the_view}
use Rattle.mg_doc.specs.declared.change.Change.{Change}
use Rattle.mg_doc.specs.declared.error.EditRefusal.{EditRefusal}
use Rattle.mg_doc.proofs.Edits.{applied, extended_is, newest_refused}
use Rattle.mg_doc.proofs.edit.apply.ReadyEdit.apply.Goals as goal

pub returns-in-New-clause-applied : goal.returns-in-New-clause-applied
returns-in-New-clause-applied c = λ h stands.
    let e : Edit = the_view c.edit.inside in
    let given : e ≡ c.args.self = c.edit.view_is ∙ c.self.view_is in
    let Q : Edit → Type 0 = IsReady h in
    let R : Edit → Type 0 = λ x. Applied h x c.extend.result c.extend.new.tree in
    let S : Result Accepted EditRefusal → Type 0 = λ x. AcceptsAs h e.deleted e.body x c.extend.result c.extend.new.tree in
    let ready : IsReady h e = subst Q (sym given) (c.requires h stands) in
    let named = option_copied c.as_ref.result in
    let said : accepted_by h e ≡ extended_by h e.deleted e.body named =
    ap (accepted_of h e.deleted e.body) c.in-New.is ∙ ap (extended h e.deleted e.body) (sym c.as_ref.ensures.value) ∙ sym (extended_is h e.deleted e.body named) in
    subst R given (applied h e c.extend.result c.extend.new.tree ready.0 (subst S (sym said) (c.extend.ensures.accepts h stands)))

pub returns-clause-applied : goal.returns-clause-applied
returns-clause-applied c = λ h stands.
    let e : Edit = the_view c.edit.inside in
    let given : e ≡ c.args.self = c.edit.view_is ∙ c.self.view_is in
    let Q : Edit → Type 0 = IsReady h in
    let R : Edit → Type 0 = λ x. Applied h x c.merge.result c.merge.new.tree in
    let S : Result Accepted EditRefusal → Type 0 = λ x. AcceptsAs h e.deleted e.body x c.merge.result c.merge.new.tree in
    let ready : IsReady h e = subst Q (sym given) (c.requires h stands) in
    let said : accepted_by h e ≡ replicated h c.in-Replica.path = ap (accepted_of h e.deleted e.body) c.in-Replica.is in
    subst R given (applied h e c.merge.result c.merge.new.tree ready.0 (subst S (sym said) (c.merge.ensures.accepts h stands)))

pub extend-requires : goal.extend-requires
extend-requires c =
    let e = c.edit.inside in
    let made = rw c.in-New.is at (rw c.in-Some.is at c.edit.invariant) in
    let is : string_bytes c.in-Some.id ≡ digest_of e.deleted c.in-New.named e.body = cc made in
    is ∙ ap (λ (n : Option Revision). digest_of e.deleted n e.body) (sym c.as_ref.ensures.value)

pub returns-in-New-clause-refused : goal.returns-in-New-clause-refused
returns-in-New-clause-refused c = λ h stands based x said.
    let e : Edit = the_view c.edit.inside in
    let given : e ≡ c.args.self = c.edit.view_is ∙ c.self.view_is in
    let named = option_copied c.as_ref.result in
    let accepted : accepted_by h e ≡ extended_by h e.deleted e.body named =
    ap (accepted_of h e.deleted e.body) c.in-New.is ∙ ap (extended h e.deleted e.body) (sym c.as_ref.ensures.value) ∙ sym (extended_is h e.deleted e.body named) in
    let P : Edit → Type 0 = λ y. outcome_of h y ≡ Err x in
    let N : Edit → Type 0 = λ y. NamesItsBase h y.change in
    let B : Change → Type 0 = NamesItsBase h in
    let C : Option Revision → Type 0 = λ n. base_of h n ≡ n in
    let based_here : base_of h c.in-New.named ≡ c.in-New.named = subst B c.in-New.is (subst N (sym given) based) in
    c.extend.ensures.refused h stands (subst C (sym c.as_ref.ensures.value) based_here) x (sym accepted ∙ newest_refused (accepted_by h e) x (subst P (sym given) said))

pub returns-clause-refused : goal.returns-clause-refused
returns-clause-refused c = λ h stands based x said.
    let e : Edit = the_view c.edit.inside in
    let given : e ≡ c.args.self = c.edit.view_is ∙ c.self.view_is in
    let N : Edit → Type 0 = λ y. NamesItsBase h y.change in
    let B : Change → Type 0 = NamesItsBase h in
    absurd (subst B c.in-Replica.is (subst N (sym given) based))
