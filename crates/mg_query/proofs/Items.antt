-- The items of an array as a list.
use Rattle.std.proofs.Common.{◌≡◌, ◌<◌, suc, List, [], ◌∷◌, Some, length, map, refl, ap, arith}
use Rattle.mg_value.specs.Value.{item_list, list}
use Rattle.mg_value.specs.View.{view, items_view}
use Rattle.mg_query.specs.Query.{rendered_fields_of}
use Rattle.mg_value.specs.declared.value.Json.{Json}

pub item_list-items_view : (fields : List Json) → item_list (items_view fields) ≡ map view fields
item_list-items_view [] = refl
item_list-items_view (field ∷ fields) = ap (λ vs. view field ∷ vs) (item_list-items_view fields)

pub lent_length : (js : List Json) → length (item_list (items_view js)) ≡ length js
lent_length [] = refl
lent_length (j ∷ js) = ap suc (lent_length js)

-- fields that are there are rendered as they were given
pub rendered_as_given : (js : List Json) → 0 < length js → list (items_view js) ≡ rendered_fields_of (Some (list (items_view js)))
rendered_as_given [] h = absurd (omega arith)
rendered_as_given (j ∷ js) h = refl
