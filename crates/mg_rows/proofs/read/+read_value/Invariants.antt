use Rattle.std.proofs.Common.{◌≡◌, ◌≤◌, ◌+◌, ◌*◌, ℕ, List, length}
use Rattle.mg_collate.specs.Order.{joined_members}
use Rattle.mg_value.specs.Value.{Items, Members}
use Rattle.mg_value.specs.View.{items_view, members_view}
use Rattle.mg_rows.specs.Bytes.{items_before, members_before}
use Rattle.mg_rows.specs.Laws.{joined_items}
use Rattle.mg_value.specs.Stored.{AreStored, MembersAreStored}
use Rattle.mg_rows.proofs.read.+read_value.Given as goal

abbrev pub decreases-read_value : goal.decreases-read_value
decreases-read_value l = 2 * length l.bytes.now

abbrev pub decreases-read_items : goal.decreases-read_items
decreases-read_items l = 2 * length l.bytes.now + 1

abbrev pub decreases-read_members : goal.decreases-read_members
decreases-read_members l = 2 * length l.bytes.now + 1

abbrev pub decreases-read_items-loop-tag : goal.decreases-read_items-loop-tag
decreases-read_items-loop-tag l = length l.left

abbrev pub decreases-read_members-loop-tag : goal.decreases-read_members-loop-tag
decreases-read_members-loop-tag l = length l.left

-- the items read and the items left are all the items
abbrev pub invariant-read_items-loop-tag : goal.invariant-read_items-loop-tag
invariant-read_items-loop-tag l =
    (length l.left ≤ length l.fn.bytes)
    × ((vs : Items) (rest : List ℕ) → AreStored vs → l.fn.bytes ≡ items_before vs rest
    → (ws : Items) × AreStored ws × (l.left ≡ items_before ws rest) × (joined_items (items_view l.items.items) ws ≡ vs))

abbrev pub invariant-read_members-loop-tag : goal.invariant-read_members-loop-tag
invariant-read_members-loop-tag l =
    (length l.left ≤ length l.fn.bytes)
    × ((ms : Members) (rest : List ℕ) → MembersAreStored ms → l.fn.bytes ≡ members_before ms rest
    → (ns : Members) × (l.left ≡ members_before ns rest) × (joined_members (members_view l.members.entries) ns ≡ ms))
