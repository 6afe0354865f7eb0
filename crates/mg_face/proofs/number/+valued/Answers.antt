use Rattle.std.proofs.Common.{◌≡◌, [], ◌∷◌, ◌++◌, Some, Err, string_cmp, sym, ap, ◌∙◌, subst, append_assoc}
use Rattle.std.proofs.lemmas.Result.{err_from_is_err_and}
use Rattle.std.specs.List.Sorted.{IsStrictlySortedBy}
use Rattle.std.specs.Map.{keys_of}
use Rattle.std.specs.Vec.Iter.{into_iter_items}
use Rattle.serde_json.specs.View.{items_view as data_items_view, members_view as data_members_view}
use Rattle.serde_json.proofs.Views.{Entry as ParsedEntry}
use Rattle.serde_json.proofs.Views as parsed
use Rattle.mg_value.specs.declared.error.ReadError.TheVariants.{NotWhole}
use Rattle.mg_face.specs.Numbers.{value_items, value_members}
use Rattle.mg_value.specs.View.{members_view}
use Rattle.mg_value.proofs.Views.{members_view-insert_entry}
use Rattle.mg_face.proofs.ValueLemmas.{value_items-push, value_items-refused, value_members-put, value_members-refused}
use Rattle.mg_face.proofs.number.+valued.Goals as goal

pub items_valued-loop-item-preserved : goal.items_valued-loop-item-preserved
items_valued-loop-item-preserved t c =
    let l = c.loop-item in
    let done = l.invariant.2 in
    let x = c.in-Some.item in
    let left = into_iter_items c.next.new.self in
    let step : into_iter_items l.item-iterator ≡ x ∷ left = c.in-Some.ensures.steps.0 in
    let all : c.args.items.items ≡ done ++ x ∷ left = l.invariant.3 ∙ ap (λ xs. done ++ xs) step in (
      tt,
      tt,
      done ++ x ∷ [],
      all ∙ sym (append_assoc done (x ∷ []) left),
      rw c.in_ok-push.ensures.items (value_items-push done x l.found.items c.in_ok-valued.field-0 l.invariant.4 c.in_ok-valued.ensures.ok),
    )

pub items_valued-returns-in_err-valued-clause-not_whole : goal.items_valued-returns-in_err-valued-clause-not_whole
items_valued-returns-in_err-valued-clause-not_whole t c h =
    let l = c.loop-item in
    let x = c.in-Some.item in
    let left = into_iter_items c.next.new.self in
    let step : into_iter_items l.item-iterator ≡ x ∷ left = c.in-Some.ensures.steps.0 in
    let all : c.args.items.items ≡ l.invariant.2 ++ x ∷ left = l.invariant.3 ∙ ap (λ xs. l.invariant.2 ++ xs) step in
    let p = err_from_is_err_and c.from_residual-in_err-valued.result c.from_residual-in_err-valued.ensures.1 in
    let refused : c.valued.result ≡ Err NotWhole = cc (h, p.1, p.2, c.in_err-valued.was) in
    ap (λ xs. value_items (data_items_view xs)) all ∙ value_items-refused l.invariant.2 x left (c.valued.ensures.not_whole refused)

pub members_valued-loop-name-preserved : goal.members_valued-loop-name-preserved
members_valued-loop-name-preserved t c =
    let l = c.loop-name in
    let done = l.invariant.2 in
    let e : ParsedEntry = (c.in-Some.name, c.in-Some.member) in
    let left = c.next.new.self in
    let step : l.name-iterator ≡ e ∷ left = c.in-Some.ensures.steps in
    let all : c.args.members.entries ≡ done ++ e ∷ left = l.invariant.3 ∙ ap (λ es. done ++ es) step in
    let last = parsed.put_last done e left (subst (λ es. IsStrictlySortedBy string_cmp (keys_of es)) all c.into_iter-name-iterator.ensures.into_iter_gives.5) in (
      tt,
      tt,
      done ++ e ∷ [],
      all ∙ sym (append_assoc done (e ∷ []) left),
      ap value_members (sym last) ∙ value_members-put _ _ _ (data_members_view done) (members_view l.found.entries) l.invariant.4 c.in_ok-member.ensures.ok
          ∙ ap Some (sym (ap members_view c.in_ok-insert.ensures.entries ∙ members_view-insert_entry l.found.entries c.in-Some.name c.in_ok-member.member)),
    )

pub members_valued-returns-in_err-member-clause-not_whole : goal.members_valued-returns-in_err-member-clause-not_whole
members_valued-returns-in_err-member-clause-not_whole t c h =
    let l = c.loop-name in
    let e : ParsedEntry = (c.in-Some.name, c.in-Some.member) in
    let left = c.next.new.self in
    let step : l.name-iterator ≡ e ∷ left = c.in-Some.ensures.steps in
    let all : c.args.members.entries ≡ l.invariant.2 ++ e ∷ left = l.invariant.3 ∙ ap (λ es. l.invariant.2 ++ es) step in
    let p = err_from_is_err_and c.from_residual.result c.from_residual.ensures.1 in
    let refused : c.valued.result ≡ Err NotWhole = cc (h, p.1, p.2, c.in_err-member.was) in
    ap (λ es. value_members (data_members_view es)) all ∙ value_members-refused l.invariant.2 e left (c.valued.ensures.not_whole refused)
