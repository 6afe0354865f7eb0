use Rattle.std.proofs.Common.{◌≡◌, drop}
use Rattle.std.specs.Result.{result_err}
use Rattle.mg_value.specs.View.{items_view, members_view}
use Rattle.mg_selector.specs.Reading.{of_items, of_members}
use Rattle.mg_selector.proofs.fault.+faults.Given as goal

-- the result for all is the result for what is left
abbrev pub invariant-items_fault-loop-item : goal.invariant-items_fault-loop-item
invariant-items_fault-loop-item l = result_err (of_items (items_view l.items)) ≡ result_err (of_items (items_view (drop l.item-index l.items)))

abbrev pub invariant-members_fault-loop-name : goal.invariant-members_fault-loop-name
invariant-members_fault-loop-name l =
    (goal.iterator-members_fault-loop-name).can_next l.name-iterator × (goal.iterator-members_fault-loop-name).is_finite l.name-iterator
    × (result_err (of_members (members_view l.members.entries)) ≡ result_err (of_members (members_view l.name-iterator)))
