use Rattle.std.proofs.Common.{◌≡◌, ◌+◌, [], ◌∷◌, ◌++◌, IsUtf8, arith, sym, ap, ◌∙◌, subst, rules}
use Rattle.mg_rows.specs.Bytes.{items_before, text_before, members_before}
use Rattle.mg_value.specs.Stored.{AreStored, MembersAreStored}
use Rattle.mg_value.specs.Held.{NamesAscend}
use Rattle.mg_value.specs.Value.{item, no_items, member}
use Rattle.mg_value.specs.Weight.{members_weight}
use Rattle.mg_value.proofs.Items.{items_past, past_item, past_all}
use Rattle.mg_value.proofs.Weights.{item_lighter, members_some, some_weight}
use Rattle.mg_rows.proofs.Joined.{items_turn, members_turn}
use Rattle.mg_rows.proofs.write.+write_value.Goals as goal

pub write_items-write_value-requires : goal.write_items-write_value-requires
write_items-write_value-requires g t c κs within =
    let vs = g.L.LentValue.items c.args.items in
    (omega (arith, item_lighter vs c.loop-place.place (g.L.LentValue.value c.item.result) c.item.ensures, c.decreases), search rules)

pub write_items-loop-place-preserved : goal.write_items-loop-place-preserved
write_items-loop-place-preserved g t c =
    let l = c.loop-place in
    let vs = g.L.LentValue.items c.args.items in
    let v = g.L.LentValue.value c.item.result in
    let rest = items_past (l.place + 1) vs in
    let next : items_past l.place vs ≡ item v rest = past_item vs l.place v c.item.ensures in (
      items_turn v rest (c.args.out.now.items ++ items_before vs []) l.out.items c.write_value.new.out.items c.in_ok-write_value.ensures.bytes (l.invariant.0 ∙ ap (λ xs. l.out.items ++ items_before xs []) next),
      λ h. l.invariant.1 (subst AreStored (sym next) (c.in_ok-write_value.ensures.stored, h)),
    )

pub write_items-returns-clause-bytes : goal.write_items-returns-clause-bytes
write_items-returns-clause-bytes g t c =
    let l = c.loop-place in
    let vs = g.L.LentValue.items c.args.items in
    let end : items_past l.place vs ≡ no_items = past_all vs l.place (omega (arith, c.len-place-end.ensures)) in
    c.in_ok-push.ensures.items ∙ sym (l.invariant.0 ∙ ap (λ xs. l.out.items ++ items_before xs []) end)

pub write_items-returns-clause-stored : goal.write_items-returns-clause-stored
write_items-returns-clause-stored g t c =
    let l = c.loop-place in
    let vs = g.L.LentValue.items c.args.items in
    let end : items_past l.place vs ≡ no_items = past_all vs l.place (omega (arith, c.len-place-end.ensures)) in
    l.invariant.1 (subst AreStored (sym end) tt)

pub write_members-write_value-requires : goal.write_members-write_value-requires
write_members-write_value-requires g t c κs within =
    let left = g.L.LentValue.rest c.next.new.walk in
    let step = ap members_weight c.in-Some.ensures in
    (omega (arith, c.loop-name.invariant.3, step, members_some left, c.decreases), search rules)

pub write_members-loop-name-preserved : goal.write_members-loop-name-preserved
write_members-loop-name-preserved g t c =
    let l = c.loop-name in
    let ms = g.L.LentValue.members c.args.members in
    let k = g.L.LentValue.bytes c.in-Some.name in
    let v = g.L.LentValue.value c.in-Some.member in
    let left = g.L.LentValue.rest c.next.new.walk in
    let step : g.L.LentValue.rest l.walk ≡ member k v left = c.in-Some.ensures in
    let named : c.write_text.new.out.items ≡ l.out.items ++ 5 ∷ text_before k [] = c.in_ok-write_text.ensures.bytes ∙ ap (λ s. l.out.items ++ 5 ∷ text_before s []) c.as_str.ensures in
    let utf8 : IsUtf8 k = subst IsUtf8 c.as_str.ensures c.write_text.ensures.utf8 in
    let ascend : NamesAscend (member k v left) = subst NamesAscend step l.invariant.1 in (
      members_turn k v left (c.args.out.now.items ++ members_before ms []) l.out.items c.write_text.new.out.items c.write_value.new.out.items named c.in_ok-write_value.ensures.bytes
          (l.invariant.0 ∙ ap (λ xs. l.out.items ++ members_before xs []) step),
      ascend.1,
      λ stored. l.invariant.2 (subst MembersAreStored (sym step) (ascend.0, utf8, c.in_ok-write_value.ensures.stored, stored)),
      omega (arith, l.invariant.3, ap members_weight step),
    )

pub write_members-loop-name-smaller : goal.write_members-loop-name-smaller
write_members-loop-name-smaller g t c = omega (arith, ap members_weight c.in-Some.ensures, some_weight (g.L.LentValue.value c.in-Some.member))
