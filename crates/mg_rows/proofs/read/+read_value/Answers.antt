use Rattle.std.proofs.Common.{◌≡◌, ◌<◌, ◌≤◌, length, string_bytes, to_z, of_z, w64, FitsSigned, true, false, rules, arith, ap, ◌∙◌}
use Rattle.std.proofs.lemmas.Int.{to_z-of_z}
use Rattle.mg_value.specs.Value.{whole, text, list, object}
use Rattle.mg_value.specs.View.{view, items_view, members_view}
use Rattle.mg_value.proofs.Views.{view-List, view-Object, members_view-insert_entry}
use Rattle.mg_rows.specs.Bytes.{value_before}
use Rattle.mg_rows.proofs.Shapes.{view-Null, view-Flag, view-Whole, view-Text, shape, null_at, false_at, true_at, whole_case, text_case, list_case, object_case, tag_some, other_at, value_some, items_ended, items_go_on, items_some, items_case, members_ended, members_go_on, members_some, members_case}
use Rattle.mg_rows.proofs.read.+read_value.Goals as goal

pub read_items-returns-then-tag-eq0-clause-value : goal.read_items-returns-then-tag-eq0-clause-value
read_items-returns-then-tag-eq0-clause-value t c vs rest stored h =
    let l = c.loop-tag in
    let zero : c.in-Some.tag.now ≡ 0 = omega (arith, c.if-tag-eq0.true) in
    let p = l.invariant.1 vs rest stored h in
    items_ended p.0 rest l.left.now c.in-Some.after.now (items_view l.items.items) vs c.in-Some.tag.now c.in-Some.ensures.cases.0 zero p.2 p.3

pub read_items-loop-tag-preserved : goal.read_items-loop-tag-preserved
read_items-loop-tag-preserved t c =
    let l = c.loop-tag in
    let some : 0 < c.in-Some.tag.now = omega (arith, c.if-tag-eq0.false) in
    let shorter : length c.in_ok-item.rest.now ≤ length c.args.bytes.now = omega (arith, c.in_ok-item.ensures.less, l.invariant.0) in (
      shorter,
      λ vs rest stored h. let p = l.invariant.1 vs rest stored h in
          items_go_on p.0 rest l.left.now c.in-Some.after.now c.in_ok-item.rest.now l.items.items c.push.new.self.items c.in_ok-item.item vs c.in-Some.tag.now c.in-Some.ensures.cases.0 some p.1 p.2 p.3
          c.in_ok-push.ensures.items c.in_ok-item.ensures.value,
    )

pub read_members-returns-then-tag-eq0-clause-value : goal.read_members-returns-then-tag-eq0-clause-value
read_members-returns-then-tag-eq0-clause-value t c ms rest stored h =
    let l = c.loop-tag in
    let zero : c.in-Some.tag.now ≡ 0 = omega (arith, c.if-tag-eq0.true) in
    let p = l.invariant.1 ms rest stored h in
    members_ended p.0 rest l.left.now c.in-Some.after.now (members_view l.members.entries) ms c.in-Some.tag.now c.in-Some.ensures.cases.0 zero p.1 p.2

pub read_members-loop-tag-preserved : goal.read_members-loop-tag-preserved
read_members-loop-tag-preserved t c =
    let l = c.loop-tag in
    let some : 0 < c.in-Some.tag.now = omega (arith, c.if-tag-eq0.false) in
    let shorter : length c.in_ok-member.rest.now ≤ length c.args.bytes.now = omega (arith, c.in_ok-member.ensures.less, c.in_ok-name.ensures.less, c.in-Some.ensures.cases.1, l.invariant.0) in
    let put = ap members_view c.in_ok-insert.ensures.entries ∙ members_view-insert_entry l.members.entries c.in_ok-name.name c.in_ok-member.member in (
      shorter,
      λ ms rest stored h. let p = l.invariant.1 ms rest stored h in
          members_go_on p.0 rest l.left.now c.in-Some.after.now c.in_ok-name.named.now c.in_ok-member.rest.now (members_view l.members.entries) (members_view c.insert.new.self.entries)
          (string_bytes c.in_ok-name.name) (view c.in_ok-member.member) ms c.in-Some.tag.now c.in-Some.ensures.cases.0 some stored p.1 p.2 put c.in_ok-name.ensures.value c.in_ok-member.ensures.value,
    )

pub read_value-returns-in-1-clause-value : goal.read_value-returns-in-1-clause-value
read_value-returns-in-1-clause-value t c v rest stored h =
    let p = null_at v c.in-Some.after.now rest c.in-Some.tag.now (shape v rest c.args.bytes.now c.in-Some.after.now c.in-Some.tag.now c.in-Some.ensures.cases.0 h) c.in-1.is in
    (view-Null ∙ p.0, p.1)

pub read_value-returns-in-2-clause-value : goal.read_value-returns-in-2-clause-value
read_value-returns-in-2-clause-value t c v rest stored h =
    let p = false_at v c.in-Some.after.now rest c.in-Some.tag.now (shape v rest c.args.bytes.now c.in-Some.after.now c.in-Some.tag.now c.in-Some.ensures.cases.0 h) c.in-2.is in
    (view-Flag false ∙ p.0, p.1)

pub read_value-returns-in-3-clause-value : goal.read_value-returns-in-3-clause-value
read_value-returns-in-3-clause-value t c v rest stored h =
    let p = true_at v c.in-Some.after.now rest c.in-Some.tag.now (shape v rest c.args.bytes.now c.in-Some.after.now c.in-Some.tag.now c.in-Some.ensures.cases.0 h) c.in-3.is in
    (view-Flag true ∙ p.0, p.1)

pub read_value-returns-in_ok-number-in-4-clause-value : goal.read_value-returns-in_ok-number-in-4-clause-value
read_value-returns-in_ok-number-in-4-clause-value t c v rest stored h =
    let number = c.in_ok-number-in-4.number in
    let fits : FitsSigned w64 number = search rules in
    whole_case _ v c.in-Some.after.now rest c.in-Some.tag.now (shape v rest c.args.bytes.now c.in-Some.after.now c.in-Some.tag.now c.in-Some.ensures.cases.0 h) c.in-4.is stored
    (λ z e small k. let p = c.in_ok-number-in-4.ensures.value z rest small k in (view-Whole (to_z w64 (of_z w64 number)) ∙ ap whole (to_z-of_z w64 number fits ∙ p.0) ∙ e, p.1))

pub read_value-returns-in_ok-text-in-5-clause-value : goal.read_value-returns-in_ok-text-in-5-clause-value
read_value-returns-in_ok-text-in-5-clause-value t c v rest stored h =
    text_case _ v c.in-Some.after.now rest c.in-Some.tag.now (shape v rest c.args.bytes.now c.in-Some.after.now c.in-Some.tag.now c.in-Some.ensures.cases.0 h) c.in-5.is stored
    (λ s e utf8 k. let p = c.in_ok-text-in-5.ensures.value s rest k in (view-Text c.in_ok-text-in-5.text ∙ ap text p.0 ∙ e, p.1))

pub read_value-returns-in_ok-items-in-6-clause-value : goal.read_value-returns-in_ok-items-in-6-clause-value
read_value-returns-in_ok-items-in-6-clause-value t c v rest stored h =
    list_case _ v c.in-Some.after.now rest c.in-Some.tag.now (shape v rest c.args.bytes.now c.in-Some.after.now c.in-Some.tag.now c.in-Some.ensures.cases.0 h) c.in-6.is stored
    (λ vs e held k. let p = c.in_ok-items-in-6.ensures.value vs rest held k in (view-List c.in_ok-items-in-6.items ∙ ap list p.0 ∙ e, p.1))

pub read_value-returns-in_ok-members-in-7-clause-value : goal.read_value-returns-in_ok-members-in-7-clause-value
read_value-returns-in_ok-members-in-7-clause-value t c v rest stored h =
    object_case _ v c.in-Some.after.now rest c.in-Some.tag.now (shape v rest c.args.bytes.now c.in-Some.after.now c.in-Some.tag.now c.in-Some.ensures.cases.0 h) c.in-7.is stored
    (λ ms e held k. let p = c.in_ok-members-in-7.ensures.value ms rest held k in (view-Object c.in_ok-members-in-7.members ∙ ap object p.0 ∙ e, p.1))

pub read_items-returns-in_err-item-clause-stored : goal.read_items-returns-in_err-item-clause-stored
read_items-returns-in_err-item-clause-stored t c vs rest stored h =
    let l = c.loop-tag in
    let some : 0 < c.in-Some.tag.now = omega (arith, c.if-tag-eq0.false) in
    let p = l.invariant.1 vs rest stored h in
    items_case _ p.0 rest l.left.now c.in-Some.after.now c.in-Some.tag.now c.in-Some.ensures.cases.0 some p.1 p.2
    (λ w r held k. let memory = c.in_err-item.ensures.stored w r held k in search rules)

pub read_items-returns-clause-stored : goal.read_items-returns-clause-stored
read_items-returns-clause-stored t c vs rest stored h =
    let l = c.loop-tag in
    let p = l.invariant.1 vs rest stored h in
    let none : length l.left.now ≡ 0 = search (rules, arith) in
    let some = items_some p.0 rest in
    let same = ap length p.2 in
    absurd (omega (arith, none, some, same))

pub read_members-returns-in_err-name-clause-stored : goal.read_members-returns-in_err-name-clause-stored
read_members-returns-in_err-name-clause-stored t c ms rest stored h =
    let l = c.loop-tag in
    let some : 0 < c.in-Some.tag.now = omega (arith, c.if-tag-eq0.false) in
    let p = l.invariant.1 ms rest stored h in
    members_case _ (members_view l.members.entries) p.0 rest l.left.now c.in-Some.after.now ms c.in-Some.tag.now c.in-Some.ensures.cases.0 some stored p.1 p.2
    (λ name w r utf8 held k. let memory = c.in_err-name.ensures.stored name (value_before w r) utf8 k in search rules)

pub read_members-returns-in_err-member-clause-stored : goal.read_members-returns-in_err-member-clause-stored
read_members-returns-in_err-member-clause-stored t c ms rest stored h =
    let l = c.loop-tag in
    let some : 0 < c.in-Some.tag.now = omega (arith, c.if-tag-eq0.false) in
    let p = l.invariant.1 ms rest stored h in
    members_case _ (members_view l.members.entries) p.0 rest l.left.now c.in-Some.after.now ms c.in-Some.tag.now c.in-Some.ensures.cases.0 some stored p.1 p.2
    (λ name w r utf8 held k. let memory = c.in_err-member.ensures.stored w r held (c.in_ok-name.ensures.value name (value_before w r) k).1 in search rules)

pub read_members-returns-clause-stored : goal.read_members-returns-clause-stored
read_members-returns-clause-stored t c ms rest stored h =
    let l = c.loop-tag in
    let p = l.invariant.1 ms rest stored h in
    let none : length l.left.now ≡ 0 = search (rules, arith) in
    let some = members_some p.0 rest in
    let same = ap length p.1 in
    absurd (omega (arith, none, some, same))

pub read_value-returns-in_default-clause-stored : goal.read_value-returns-in_default-clause-stored
read_value-returns-in_default-clause-stored t c v rest stored h =
    let none : length c.args.bytes.now ≡ 0 = search (rules, arith) in
    let some = value_some v rest in
    let same = ap length h in
    absurd (omega (arith, none, some, same))

pub read_value-returns-in_default-tag-clause-stored : goal.read_value-returns-in_default-tag-clause-stored
read_value-returns-in_default-tag-clause-stored t c v rest stored h =
    let known = shape v rest c.args.bytes.now c.in-Some.after.now c.in-Some.tag.now c.in-Some.ensures.cases.0 h in
    let some = tag_some v c.in-Some.after.now rest c.in-Some.tag.now known in
    let low = other_at v c.in-Some.after.now rest c.in-Some.tag.now known in
    absurd (omega (arith, some, low, c.in_default-tag))

pub read_value-returns-in_err-number-in-4-clause-stored : goal.read_value-returns-in_err-number-in-4-clause-stored
read_value-returns-in_err-number-in-4-clause-stored t c v rest stored h =
    whole_case _ v c.in-Some.after.now rest c.in-Some.tag.now (shape v rest c.args.bytes.now c.in-Some.after.now c.in-Some.tag.now c.in-Some.ensures.cases.0 h) c.in-4.is stored
    (λ z e small k. let memory = c.in_err-number-in-4.ensures.stored z rest k in search rules)

pub read_value-returns-in_err-text-in-5-clause-stored : goal.read_value-returns-in_err-text-in-5-clause-stored
read_value-returns-in_err-text-in-5-clause-stored t c v rest stored h =
    text_case _ v c.in-Some.after.now rest c.in-Some.tag.now (shape v rest c.args.bytes.now c.in-Some.after.now c.in-Some.tag.now c.in-Some.ensures.cases.0 h) c.in-5.is stored
    (λ s e utf8 k. let memory = c.in_err-text-in-5.ensures.stored s rest utf8 k in search rules)

pub read_value-returns-in_err-items-in-6-clause-stored : goal.read_value-returns-in_err-items-in-6-clause-stored
read_value-returns-in_err-items-in-6-clause-stored t c v rest stored h =
    list_case _ v c.in-Some.after.now rest c.in-Some.tag.now (shape v rest c.args.bytes.now c.in-Some.after.now c.in-Some.tag.now c.in-Some.ensures.cases.0 h) c.in-6.is stored
    (λ vs e held k. let memory = c.in_err-items-in-6.ensures.stored vs rest held k in search rules)

pub read_value-returns-in_err-members-in-7-clause-stored : goal.read_value-returns-in_err-members-in-7-clause-stored
read_value-returns-in_err-members-in-7-clause-stored t c v rest stored h =
    object_case _ v c.in-Some.after.now rest c.in-Some.tag.now (shape v rest c.args.bytes.now c.in-Some.after.now c.in-Some.tag.now c.in-Some.ensures.cases.0 h) c.in-7.is stored
    (λ ms e held k. let memory = c.in_err-members-in-7.ensures.stored ms rest held k in search rules)
