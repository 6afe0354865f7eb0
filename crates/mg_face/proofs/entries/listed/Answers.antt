use Rattle.std.proofs.Common.{◌≡◌, List, Some, map, sym, ap, ◌∙◌}
use Rattle.mg_value.specs.Value.{Value, list}
use Rattle.mg_value.specs.View.{items_of, view}
use Rattle.mg_value.proofs.Items.{item_list-items_of}
use Rattle.mg_value.proofs.Views.{view-List}
use Rattle.mg_face.specs.Entries.{listed}
use Rattle.mg_face.proofs.entries.listed.Goals as goal

pub returns-in-List : goal.returns-in-List
returns-in-List c =
    let given = c.in-List.values in
    let viewed : view c.args.value ≡ list (items_of (map view given.items)) = ap view c.in-List.is ∙ view-List given in
    ap (λ (vs : List Value). Some vs) (sym (item_list-items_of (map view given.items))) ∙ sym (ap listed viewed)
