use Rattle.std.proofs.Common.{◌≡◌, ◌∙◌, Some, ap, map, sym}
use Rattle.mg_value.specs.Value.{list, no_members, object}
use Rattle.mg_value.specs.View.{items_view, view}
use Rattle.mg_value.proofs.Items.{item_list-items_of}
use Rattle.mg_value.proofs.Views.{view-List}
use Rattle.mg_engine.specs.Design.{columns_in, with_firsts}
use Rattle.mg_engine.proofs.design.columns_of.Goals as goal

pub returns-in-List : goal.returns-in-List
returns-in-List c =
    let values = c.in-List.values in
    let named : view c.args.listed ≡ list (items_view values.items) = ap view c.in-List.is ∙ view-List values in
    c.in_ok-columns-in-List.ensures
    ∙ ap (λ vs. with_firsts vs (object no_members)) (sym (item_list-items_of (map view values.items)))
    ∙ ap (λ v. columns_in (Some v)) (sym named)
