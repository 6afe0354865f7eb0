use Rattle.std.proofs.Common.{◌≡◌, drop}
use Rattle.mg_value.specs.View.{items_view, members_view}
use Rattle.mg_selector.specs.Fault.{fmap}
use Rattle.mg_selector.specs.Reading.{of_items, of_members}
use Rattle.mg_selector.proofs.Arms.{arms_before}
use Rattle.mg_selector.proofs.reader.+reading.Given as goal

-- the reading of all is the arms so far, and then the reading of the rest
abbrev pub invariant-read_items-loop-item : goal.invariant-read_items-loop-item
invariant-read_items-loop-item l = of_items (items_view l.items) ≡ fmap (arms_before l.found.items) (of_items (items_view (drop l.item-index l.items)))

abbrev pub invariant-read_members-loop-name : goal.invariant-read_members-loop-name
invariant-read_members-loop-name l =
    (goal.iterator-read_members-loop-name).can_next l.name-iterator × (goal.iterator-read_members-loop-name).is_finite l.name-iterator
    × (of_members (members_view l.members.entries) ≡ fmap (arms_before l.found.items) (of_members (members_view l.name-iterator)))
