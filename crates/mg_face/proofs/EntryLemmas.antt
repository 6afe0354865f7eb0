-- The only item of a list.
use Rattle.std.proofs.Common.{◌≡◌, ◌≢◌, List, [], ◌∷◌, length, get_or, Option, Some, None, option_map, refl, ap, arith}
use Rattle.mg_value.specs.Value.{Value, list}
use Rattle.mg_value.specs.View.{view, items_view}
use Rattle.mg_value.specs.declared.value.Json.{Json}
use Rattle.mg_face.specs.Edited.{only_item}

pub no_item : (otherwise : Option Value) (values : List Json) → length values ≡ 0 → otherwise ≡ only_item otherwise (list (items_view values))
no_item otherwise [] none = refl
no_item otherwise (w ∷ values) none = absurd (omega arith)

pub the_only : (otherwise : Option Value) (values : List Json) (v : Json) → length values ≡ 1 → v ≡ get_or values 0 v → Some (view v) ≡ only_item otherwise (list (items_view values))
the_only otherwise [] v one is = absurd (omega arith)
the_only otherwise (w ∷ []) v one is = ap (λ (x : Json). Some (view x)) is
the_only otherwise (w ∷ x ∷ values) v one is = absurd (omega arith)

pub not_one : (otherwise : Option Value) (values : List Json) → length values ≢ 0 → length values ≢ 1 → None ≡ only_item otherwise (list (items_view values))
not_one otherwise [] some other = absurd (some refl)
not_one otherwise (w ∷ []) some other = absurd (other refl)
not_one otherwise (w ∷ x ∷ values) some other = refl
