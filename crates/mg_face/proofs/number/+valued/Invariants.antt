use Rattle.std.proofs.Common.{◌≡◌, ◌++◌, List, Some}
use Rattle.std.specs.Vec.Iter.{into_iter_items}
use Rattle.serde_json.specs.View.{items_view as data_items_view}
use Rattle.serde_json.specs.View.{members_view as data_members_view}
use Rattle.serde_json.specs.declared.value.Value.{Value as Parsed}
use Rattle.serde_json.proofs.Views.{Entry as ParsedEntry}
use Rattle.mg_face.specs.Numbers.{value_items, value_members}
use Rattle.mg_value.specs.View.{items_view, members_view}
use Rattle.mg_face.proofs.number.+valued.Given as goal

abbrev pub invariant-items_valued-loop-item : goal.invariant-items_valued-loop-item
invariant-items_valued-loop-item l =
    (goal.iterator-items_valued-loop-item).can_next l.item-iterator × (goal.iterator-items_valued-loop-item).is_finite l.item-iterator
    × (done : List Parsed) × (l.fn.items.items ≡ done ++ into_iter_items l.item-iterator)
    × (value_items (data_items_view done) ≡ Some (items_view l.found.items))

abbrev pub invariant-members_valued-loop-name : goal.invariant-members_valued-loop-name
invariant-members_valued-loop-name l =
    (goal.iterator-members_valued-loop-name).can_next l.name-iterator × (goal.iterator-members_valued-loop-name).is_finite l.name-iterator
    × (done : List ParsedEntry) × (l.fn.members.entries ≡ done ++ l.name-iterator)
    × (value_members (data_members_view done) ≡ Some (members_view l.found.entries))
