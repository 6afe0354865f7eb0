use Rattle.std.proofs.Common.{◌≡◌, take, map}
use Rattle.mg_value.specs.Value.{item_list}
use Rattle.mg_value.specs.View.{view, members_view}
use Rattle.mg_value.specs.Weight.{weight, items_weight, members_weight}
use Rattle.mg_packed.specs.Walk.{first_members}
use Rattle.mg_packed.proofs.copy.+copy_part.Given as goal

abbrev pub decreases-copy_part : goal.decreases-copy_part
decreases-copy_part l = weight l.part.now

abbrev pub decreases-copy_items : goal.decreases-copy_items
decreases-copy_items l = items_weight l.items.now

abbrev pub decreases-copy_members : goal.decreases-copy_members
decreases-copy_members l = members_weight l.members.now

abbrev pub invariant-copy_items-loop-index : goal.invariant-copy_items-loop-index
invariant-copy_items-loop-index l = map view l.copies.items ≡ take l.index (item_list l.items)

abbrev pub invariant-copy_members-loop-index : goal.invariant-copy_members-loop-index
invariant-copy_members-loop-index l = members_view l.copies.entries ≡ first_members l.index l.members
