use Rattle.std.proofs.Common.{◌≡◌, List, map, sym, ap, ◌∙◌}
use Rattle.mg_value.specs.Value.{Value, list}
use Rattle.mg_value.specs.View.{view, items_of}
use Rattle.mg_value.proofs.Items.{item_list-items_of}
use Rattle.mg_value.proofs.Views.{view-List}
use Rattle.mg_face.specs.Ids.{with_ids, documents_with_ids}
use Rattle.mg_face.proofs.ids.documents_with_ids.Goals as goal

pub returns-in_ok-with_ids-in-List : goal.returns-in_ok-with_ids-in-List
returns-in_ok-with_ids-in-List c =
    let first = c.args.first in
    let given = c.in-List.documents in
    let named : view c.args.documents ≡ list (items_of (map view given.items)) = ap view c.in-List.is ∙ view-List given in
    view-List c.in_ok-with_ids-in-List.field-0
    ∙ ap (λ (vs : List Value). list (items_of vs)) c.in_ok-with_ids-in-List.ensures
    ∙ ap (λ (vs : List Value). list (items_of (with_ids first vs))) (sym (item_list-items_of (map view given.items)))
    ∙ sym (ap (documents_with_ids first) named)
