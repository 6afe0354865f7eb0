-- The values of an end, put together one by one.
use Rattle.std.proofs.Common.{◌≡◌, ℕ, zero, suc, ◌+◌, ◌<◌, List, [], ◌∷◌, Option, get_or, drop, length, refl, sym, ap, ◌∙◌, arith}
use Rattle.mg_range.specs.SpanEnds.{end_values}
use Rattle.mg_range.specs.Range.{Limit}
use Rattle.mg_rows.specs.Laws.{joined_items}
use Rattle.mg_value.specs.Value.{Value, Items, no_items, item}
use Rattle.mg_value.specs.View.{items_of, items_view, view}
use Rattle.mg_value.specs.declared.value.Json.{Json}

pub joined_none : (vs : Items) → joined_items vs no_items ≡ vs
joined_none no_items = refl
joined_none (item v vs) = ap (item v) (joined_none vs)

joined_one : (vs : Items) (w : Value) (ws : Items) → joined_items (joined_items vs (item w no_items)) ws ≡ joined_items vs (item w ws)
joined_one no_items w ws = refl
joined_one (item v vs) w ws = ap (item v) (joined_one vs w ws)

first_left : (values : List Json) (i : ℕ) (x : Json) → i < length values → x ≡ get_or values i x → items_view (drop i values) ≡ item (view x) (items_view (drop (i + 1) values))
first_left [] i x less is = absurd (omega (arith, less))
first_left (v ∷ values) zero x less is = ap (λ (y : Json). item (view y) (items_view values)) (sym is)
first_left (v ∷ values) (suc i) x less is =
    let n : suc (i + 1) ≡ suc i + 1 = omega arith in
    first_left values i x (omega (arith, less)) is ∙ ap (λ m. item (view x) (items_view (drop m (v ∷ values)))) n

-- after one more value is pushed
pub pushed : (all key next : Items) (values : List Json) (i : ℕ) (x : Json) → i < length values → x ≡ get_or values i x → next ≡ joined_items key (item (view x) no_items)
    → joined_items key (items_view (drop i values)) ≡ all → joined_items next (items_view (drop (i + 1) values)) ≡ all
pushed all key next values i x less is e sum =
    let rest = items_view (drop (i + 1) values) in
    ap (λ (k : Items). joined_items k rest) e ∙ joined_one key (view x) rest ∙ ap (joined_items key) (sym (first_left values i x less is)) ∙ sum

none_left : (values : List Json) (i : ℕ) → i ≡ length values → items_view (drop i values) ≡ no_items
none_left [] zero e = refl
none_left [] (suc i) e = refl
none_left (v ∷ values) zero e = absurd (omega (arith, e))
none_left (v ∷ values) (suc i) e = none_left values i (omega (arith, e))

-- after all values are pushed
pub all_pushed : (all key : Items) (values : List Json) (i : ℕ) → i ≡ length values → joined_items key (items_view (drop i values)) ≡ all → key ≡ all
all_pushed all key values i e sum = sym (joined_none key) ∙ ap (joined_items key) (sym (none_left values i e)) ∙ sum

-- the values of an end are the fixed ones and then that of the limit
pub end_joined : (equal : List Value) (limit : Option Limit) → joined_items (items_of equal) (end_values [] limit) ≡ end_values equal limit
end_joined [] limit = refl
end_joined (e ∷ es) limit = ap (item e) (end_joined es limit)
