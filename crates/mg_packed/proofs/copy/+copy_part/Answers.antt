use Rattle.std.proofs.Common.{◌≡◌, ◌+◌, ◌<◌, suc, length, take, string_bytes, ap, ◌∙◌, arith}
use Rattle.std.proofs.Math.Seq.{take-length}
use Rattle.mg_value.specs.Value.{item_list, member_list, put}
use Rattle.mg_value.specs.View.{view, items_of, members_view}
use Rattle.mg_value.proofs.Views.{members_view-insert_entry}
use Rattle.mg_packed.specs.Read.{nth_name, nth_value}
use Rattle.mg_value.specs.Weight.{weight, items_weight, members_weight}
use Rattle.mg_packed.specs.Walk.{first_members}
use Rattle.mg_packed.proofs.Copies.{item_lighter, value_lighter, items_again, all_members, put_next}
use Rattle.mg_packed.proofs.copy.+copy_part.Goals as goal

pub copy_items-copy_part-requires : goal.copy_items-copy_part-requires
copy_items-copy_part-requires t c =
    let less : c.loop-index.index < length (item_list c.args.items.now) = omega (arith, c.len-count.ensures) in
    let light : weight c.item.result < items_weight c.args.items.now = omega (arith, item_lighter c.args.items.now c.loop-index.index less, ap weight c.item.ensures) in
    (omega (arith, light, c.decreases), tt)

pub copy_items-returns : goal.copy_items-returns
copy_items-returns t c =
    let vs = c.args.items.now in
    let all : c.loop-index.index ≡ length (item_list vs) = omega (arith, c.len-count.ensures) in
    ap items_of (c.loop-index.invariant ∙ ap (λ n. take n (item_list vs)) all ∙ take-length (item_list vs)) ∙ items_again vs

pub copy_members-copy_part-requires : goal.copy_members-copy_part-requires
copy_members-copy_part-requires t c =
    let less : c.loop-index.index < length (member_list c.args.members.now) = omega (arith, c.len-count.ensures.count) in
    let light : weight c.value.result < members_weight c.args.members.now = omega (arith, value_lighter c.args.members.now c.loop-index.index less, ap weight c.value.ensures) in
    (omega (arith, light, c.decreases), tt)

pub copy_members-loop-index-preserved : goal.copy_members-loop-index-preserved
copy_members-loop-index-preserved t c =
    let ms = c.args.members.now in
    let i = c.loop-index.index in
    let less : i < length (member_list ms) = omega (arith, c.len-count.ensures.count) in
    let named : string_bytes c.in_ok-name.name ≡ nth_name ms i = c.in_ok-name.ensures.ok ∙ c.name.ensures in
    let valued : view c.in_ok-value.value ≡ nth_value ms i = c.in_ok-value.ensures ∙ c.value.ensures in
    let next : suc i ≡ i + 1 = omega arith in
    ap members_view c.in_ok-insert.ensures.entries
    ∙ members_view-insert_entry c.loop-index.copies.entries c.in_ok-name.name c.in_ok-value.value
    ∙ ap (λ k. put k (view c.in_ok-value.value) (members_view c.loop-index.copies.entries)) named
    ∙ ap (λ v. put (nth_name ms i) v (members_view c.loop-index.copies.entries)) valued
    ∙ ap (λ some. put (nth_name ms i) (nth_value ms i) some) c.loop-index.invariant
    ∙ put_next ms c.len-count.ensures.stored i less
    ∙ ap (λ n. first_members n ms) next

pub copy_members-returns : goal.copy_members-returns
copy_members-returns t c =
    let ms = c.args.members.now in
    let all : c.loop-index.index ≡ length (member_list ms) = omega (arith, c.len-count.ensures.count) in
    c.loop-index.invariant ∙ ap (λ n. first_members n ms) all ∙ all_members ms
