use Rattle.std.proofs.Common.{◌≡◌, ◌++◌, List, Some}
use Rattle.std.specs.Vec.Iter.{into_iter_items}
use Rattle.serde_json.specs.View.{items_view as data_items_view}
use Rattle.serde_json.specs.View.{members_view as data_members_view}
use Rattle.serde_json.specs.declared.value.Value.{Value as Parsed}
use Rattle.serde_json.proofs.Views.{Entry as ParsedEntry}
use Rattle.mg_value.specs.Text.{whole_items, whole_members}
use Rattle.mg_value.specs.View.{items_view, members_view}
use Rattle.mg_value.proofs.reader.+whole.Given as goal

abbrev pub invariant-items_whole-loop-item : goal.invariant-items_whole-loop-item
invariant-items_whole-loop-item l =
    (goal.iterator-items_whole-loop-item).can_next l.item-iterator × (goal.iterator-items_whole-loop-item).is_finite l.item-iterator
    × (done : List Parsed) × (l.fn.items.items ≡ done ++ into_iter_items l.item-iterator)
    × (whole_items (data_items_view done) ≡ Some (items_view l.found.items))

abbrev pub invariant-members_whole-loop-name : goal.invariant-members_whole-loop-name
invariant-members_whole-loop-name l =
    (goal.iterator-members_whole-loop-name).can_next l.name-iterator × (goal.iterator-members_whole-loop-name).is_finite l.name-iterator
    × (done : List ParsedEntry) × (l.fn.members.entries ≡ done ++ l.name-iterator)
    × (whole_members (data_members_view done) ≡ Some (members_view l.found.entries))
