use Rattle.std.proofs.Common.{◌≡◌, ◌+◌, drop, length, string_bytes, nat_cmp, sym, ap, ap₂, ◌∙◌, rules, arith}
use Rattle.std.specs.Cmp.Lexicographic.{slice_cmp}
use Rattle.std.specs.Ordering.{ordering_then}
use Rattle.mg_value.specs.Value.{text, item_list}
use Rattle.mg_value.specs.View.{view, items_view, members_view}
use Rattle.mg_value.specs.declared.value.Json.{the_lemmas}
use Rattle.mg_value.proofs.Items.{items_past}
use Rattle.mg_value.proofs.Views.{Entry}
use Rattle.mg_collate.specs.Order.{value_order, items_order}
use Rattle.mg_collate.specs.Compared.{members_order}
use Rattle.mg_collate.proofs.Flat.{text_order}
use Rattle.mg_collate.proofs.Turns.{decided, items_step, items_less, items_end, members_step}
use Rattle.mg_collate.proofs.order.+compare.Goals as goal

pub compare_of-returns-in-Text-Text : goal.compare_of-returns-in-Text-Text
compare_of-returns-in-Text-Text g t c =
    let xs = g.L.LentValue.bytes c.in-Text-Text.x in
    let ys = string_bytes c.in-Text-Text.y in
    let answer : c.cmp-in-Text-Text.result ≡ slice_cmp nat_cmp xs ys = search rules in
    let first : text xs ≡ g.L.LentValue.value c.args.value = search rules in
    let second : text ys ≡ view c.args.other.now = rw c.in-Text-Text.is-1 (search (rules, the_lemmas)) in
    answer ∙ sym (text_order xs ys) ∙ ap₂ value_order first second

pub compare_items-returns-then-place-count : goal.compare_items-returns-then-place-count
compare_items-returns-then-place-count g t c =
    let l = c.loop-place in
    let vs = g.L.LentValue.items c.args.items in
    let all : l.place ≡ length (item_list vs) = omega (arith, c.len-count.ensures, l.invariant.1) in
    sym (l.invariant.0 ∙ items_less vs c.args.others.now l.place c.index-others-place.result all c.loop-place-test.true)

pub compare_items-returns-in_default : goal.compare_items-returns-in_default
compare_items-returns-in_default g t c =
    let l = c.loop-place in
    let vs = g.L.LentValue.items c.args.items in
    let v = g.L.LentValue.value c.item.result in
    let y = c.index-others-place.result in
    let left = items_order (items_past (l.place + 1) vs) (items_view (drop (l.place + 1) c.args.others.now)) in
    decided c.compare_of.result left c.in_default.not-Equal
    ∙ sym (l.invariant.0 ∙ items_step vs c.args.others.now l.place v y c.item.ensures c.loop-place-test.true c.index-others-place.is ∙ ap (λ o. ordering_then o left) (sym c.compare_of.ensures))

pub compare_items-loop-place-preserved : goal.compare_items-loop-place-preserved
compare_items-loop-place-preserved g t c =
    let l = c.loop-place in
    let vs = g.L.LentValue.items c.args.items in
    let v = g.L.LentValue.value c.item.result in
    let y = c.index-others-place.result in
    let left = items_order (items_past (l.place + 1) vs) (items_view (drop (l.place + 1) c.args.others.now)) in (
      l.invariant.0 ∙ items_step vs c.args.others.now l.place v y c.item.ensures c.loop-place-test.true c.index-others-place.is
          ∙ ap (λ o. ordering_then o left) (sym c.compare_of.ensures ∙ c.in-Equal.is),
      omega (arith, c.len-count.ensures),
    )

pub compare_items-returns : goal.compare_items-returns
compare_items-returns g t c =
    let l = c.loop-place in
    let vs = g.L.LentValue.items c.args.items in
    let end : l.place ≡ length c.args.others.now = omega arith in
    c.cmp.ensures ∙ ap (λ n. nat_cmp n (length c.args.others.now)) c.len-count.ensures ∙ items_end vs c.args.others.now l.place l.invariant.1 end ∙ sym l.invariant.0

pub compare_members-returns-in_default : goal.compare_members-returns-in_default
compare_members-returns-in_default g t c =
    let l = c.loop-other_name in
    let k = g.L.LentValue.bytes c.in-Some-next.name in
    let v = g.L.LentValue.value c.in-Some-next.value in
    let ms = g.L.LentValue.rest c.next-in-loop-other_name.new.walk in
    let e : Entry = (c.in-Some.other_name.now, c.in-Some.other.now) in
    let es = c.next.new.self in
    let answer : c.compare_member.result ≡ ordering_then (slice_cmp nat_cmp k (string_bytes e.0)) (value_order v (view e.1)) = search rules in
    decided c.compare_member.result (members_order ms (members_view es)) c.in_default.not-Equal
    ∙ sym (l.invariant.2 ∙ members_step (g.L.LentValue.rest l.walk) ms l.other_name-iterator es k v e c.in-Some-next.ensures c.in-Some.ensures.steps
    ∙ ap (λ o. ordering_then o (members_order ms (members_view es))) (sym answer))

pub compare_members-loop-other_name-preserved : goal.compare_members-loop-other_name-preserved
compare_members-loop-other_name-preserved g t c =
    let l = c.loop-other_name in
    let k = g.L.LentValue.bytes c.in-Some-next.name in
    let v = g.L.LentValue.value c.in-Some-next.value in
    let ms = g.L.LentValue.rest c.next-in-loop-other_name.new.walk in
    let e : Entry = (c.in-Some.other_name.now, c.in-Some.other.now) in
    let es = c.next.new.self in
    let answer : c.compare_member.result ≡ ordering_then (slice_cmp nat_cmp k (string_bytes e.0)) (value_order v (view e.1)) = search rules in (
      tt,
      tt,
      l.invariant.2 ∙ members_step (g.L.LentValue.rest l.walk) ms l.other_name-iterator es k v e c.in-Some-next.ensures c.in-Some.ensures.steps
          ∙ ap (λ o. ordering_then o (members_order ms (members_view es))) (sym answer ∙ c.in-Equal.is),
    )
