use Rattle.std.proofs.Common.{◌≡◌, ◌≤◌, [], ◌++◌}
use Rattle.mg_rows.specs.Bytes.{items_before, members_before}
use Rattle.mg_value.specs.Stored.{AreStored, MembersAreStored}
use Rattle.mg_value.specs.Held.{NamesAscend}
use Rattle.mg_value.proofs.Items.{items_past}
use Rattle.mg_value.specs.Weight.{weight, items_weight, members_weight}
use Rattle.mg_rows.proofs.write.+write_value.Given as goal

abbrev pub decreases-write_value : goal.decreases-write_value
decreases-write_value g l = weight (g.L.LentValue.value l.value)

abbrev pub decreases-write_items : goal.decreases-write_items
decreases-write_items g l = items_weight (g.L.LentValue.items l.items)

abbrev pub decreases-write_members : goal.decreases-write_members
decreases-write_members g l = members_weight (g.L.LentValue.members l.members)

-- the bytes so far and those of the items left are all the bytes to write
abbrev pub invariant-write_items-loop-place : goal.invariant-write_items-loop-place
invariant-write_items-loop-place g l =
    let vs = g.L.LentValue.items l.fn.items in
    let left = items_past l.place vs in
    (l.initial.out.items ++ items_before vs [] ≡ l.out.items ++ items_before left []) × (AreStored left → AreStored vs)

abbrev pub invariant-write_members-loop-name : goal.invariant-write_members-loop-name
invariant-write_members-loop-name g l =
    let ms = g.L.LentValue.members l.fn.members in
    let left = g.L.LentValue.rest l.walk in
    (l.initial.out.items ++ members_before ms [] ≡ l.out.items ++ members_before left [])
    × NamesAscend left
    × (MembersAreStored left → MembersAreStored ms)
    × (members_weight left ≤ members_weight ms)

abbrev pub decreases-write_members-loop-name : goal.decreases-write_members-loop-name
decreases-write_members-loop-name g l = members_weight (g.L.LentValue.rest l.walk)
