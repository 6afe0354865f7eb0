use Rattle.std.proofs.Common.{◌≡◌, Some, take, drop}
use Rattle.json.specs.Value.{items_view as tree_items, members_view as tree_members}
use Rattle.serde_json.specs.Data as parsed
use Rattle.serde_json.specs.Read.{of_members}
use Rattle.mg_value.specs.Text.{whole_members}
use Rattle.mg_value.specs.Borrowed.{AreItemTreesOf}
use Rattle.mg_value.specs.View.{items_view, members_view}
use Rattle.mg_value.proofs.borrowed.+whole.Given as goal

abbrev pub invariant-whole_items-loop-item : goal.invariant-whole_items-loop-item
invariant-whole_items-loop-item l = AreItemTreesOf (tree_items (take l.item-index l.items)) (items_view l.values.items)

-- ds is the data of the members read so far: reading on from it gives the data of all members, and the copies have its value
abbrev pub invariant-whole_members-loop-member : goal.invariant-whole_members-loop-member
invariant-whole_members-loop-member l =
    (ds : parsed.Members) × (of_members (tree_members l.members) parsed.no_members ≡ of_members (tree_members (drop l.member-index l.members)) ds)
    × (whole_members ds ≡ Some (members_view l.copies.entries))
