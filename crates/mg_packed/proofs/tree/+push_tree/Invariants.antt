use Rattle.std.proofs.Common.{◌≡◌, ◌+◌, ◌*◌, List, ◌++◌, take}
use Rattle.mg_value.specs.Value.{Items, Members}
use Rattle.mg_packed.specs.Tables.{item_pieces, member_pieces}
use Rattle.mg_packed.specs.Sorted.{TreeMember, ItemsMatch, MembersMatch}
use Rattle.mg_packed.specs.Writing.{IsOpen}
use Rattle.mg_packed.proofs.tree.+push_tree.Given as goal

abbrev pub decreases-push_tree : goal.decreases-push_tree
decreases-push_tree l = 4 * l.depth + 2

abbrev pub decreases-push_array : goal.decreases-push_array
decreases-push_array l = 4 * l.depth + 1

abbrev pub decreases-push_object : goal.decreases-push_object
decreases-push_object l = 4 * l.depth + 1

abbrev pub decreases-push_items : goal.decreases-push_items
decreases-push_items l = 4 * l.depth + 4

abbrev pub decreases-push_sorted : goal.decreases-push_sorted
decreases-push_sorted l = 4 * l.depth + 4

-- the items so far are the pieces so far
abbrev pub invariant-push_items-loop-item : goal.invariant-push_items-loop-item
invariant-push_items-loop-item l =
    (vs : Items) × ItemsMatch (take l.item-index l.items) vs
    × IsOpen l.fn.out.items l.fn.inner.items 91 (item_pieces vs) l.out.items l.inner.items l.pieces.text l.pieces.tables l.pieces.marks.items

-- the members so far are the pieces so far
abbrev pub invariant-push_sorted-loop-name : goal.invariant-push_sorted-loop-name
invariant-push_sorted-loop-name l =
    (done : List TreeMember) × (l.sorted.entries ≡ done ++ l.name-iterator)
    × (ms : Members) × MembersMatch done ms
    × IsOpen l.fn.out.items l.fn.inner.items 123 (member_pieces ms) l.out.items l.inner.items l.pieces.text l.pieces.tables l.pieces.marks.items
