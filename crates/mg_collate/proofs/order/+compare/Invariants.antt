use Rattle.std.proofs.Common.{◌≡◌, ◌≤◌, drop, length}
use Rattle.mg_value.specs.Value.{item_list}
use Rattle.mg_value.specs.View.{items_view, members_view}
use Rattle.mg_value.proofs.Items.{items_past}
use Rattle.mg_collate.specs.Order.{items_order}
use Rattle.mg_collate.specs.Compared.{members_order}
use Rattle.mg_collate.proofs.order.+compare.Given as goal

-- the items left decide the order
abbrev pub invariant-compare_items-loop-place : goal.invariant-compare_items-loop-place
invariant-compare_items-loop-place g l =
    let vs = g.L.LentValue.items l.items in
    (items_order vs (items_view l.others) ≡ items_order (items_past l.place vs) (items_view (drop l.place l.others))) × (l.place ≤ length (item_list vs))

abbrev pub invariant-compare_members-loop-other_name : goal.invariant-compare_members-loop-other_name
invariant-compare_members-loop-other_name g l =
    (goal.iterator-compare_members-loop-other_name g).can_next l.other_name-iterator × (goal.iterator-compare_members-loop-other_name g).is_finite l.other_name-iterator
    × (members_order (g.L.LentValue.members l.fn.members) (members_view l.others.entries) ≡ members_order (g.L.LentValue.rest l.walk) (members_view l.other_name-iterator))
