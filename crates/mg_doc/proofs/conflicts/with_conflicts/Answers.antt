use Rattle.std.proofs.Common.{◌≡◌, ◌<◌, ◌∙◌, List, codes, length, map, sym, ap, subst, arith}
use Rattle.std.proofs.lemmas.Grind.{common_steps}
use Rattle.std.proofs.lemmas.Simd.{map-map}
use Rattle.mg_value.specs.Value.{list, with_member}
use Rattle.mg_value.specs.View.{view, items_of}
use Rattle.mg_value.specs.declared.value.Json as made
use Rattle.mg_value.proofs.Views.{view-List}
use Rattle.mg_revtree.specs.History.{Leaf}
use Rattle.mg_revtree.specs.Losers.{losers_of}
use Rattle.mg_doc.specs.Conflicts.{leaf_text}
use Rattle.mg_doc.proofs.Shown.{losers_put}
use Rattle.mg_doc.proofs.conflicts.with_conflicts.Goals as goal

pub returns-clause-shown : goal.returns-clause-shown
returns-clause-shown c = λ h stands.
    let is = c.in_ok-losers.ensures.list h stands in
    let some : 0 < length (losers_of h) = subst (λ (ls : List Leaf). 0 < length ls) is (grind (arith, common_steps, c.is_empty.ensures, c.if-is_empty.false)) in
    let texts : map view c.in_ok-revision_texts.field-0.items ≡ map leaf_text (losers_of h) =
    c.in_ok-revision_texts.ensures ∙ ap (map (λ l. leaf_text l.now)) c.deref.ensures.value ∙ sym (map-map leaf_text (λ l. l.now) c.in_ok-losers.losers.items) ∙ ap (map leaf_text) is in
    let said : view (made.List c.in_ok-revision_texts.field-0) ≡ list (items_of (map leaf_text (losers_of h))) = view-List c.in_ok-revision_texts.field-0 ∙ ap (λ ts. list (items_of ts)) texts in
    c.in_ok-insert.ensures.ok ∙ ap (λ v. with_member (codes "_conflicts") v (view c.args.document)) said ∙ sym (losers_put (losers_of h) (view c.args.document) some)
