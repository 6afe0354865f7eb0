-- The items of an array by their places, and the items from a place on.
use Rattle.std.proofs.Common.{◌≡◌, ℕ, zero, suc, ◌+◌, List, [], ◌∷◌, length, Some, option_map, map, refl, ap, ◌∙◌, arith}
use Rattle.std.specs.List.{slice_get}
use Rattle.std.proofs.lemmas.Option.{slice_get-map}
use Rattle.mg_value.specs.Value.{Value, Items, no_items, item, item_list}
use Rattle.mg_value.specs.View.{view, items_of, items_view}
use Rattle.mg_value.specs.declared.value.Json.{Json}

pub item_list-items_of : (vs : List Value) → item_list (items_of vs) ≡ vs
item_list-items_of [] = refl
item_list-items_of (v ∷ vs) = ap (λ ws. v ∷ ws) (item_list-items_of vs)

pub length-items_view : (js : List Json) → length (item_list (items_view js)) ≡ length js
length-items_view [] = refl
length-items_view (j ∷ js) = ap suc (length-items_view js)

-- the n-th item of the view is the view of the n-th item
pub slice_get-items_view : (js : List Json) (n : ℕ) → slice_get (item_list (items_view js)) n ≡ option_map view (slice_get js n)
slice_get-items_view js n = ap (λ vs. slice_get vs n) (item_list-items_of (map view js)) ∙ slice_get-map view js n

-- the items from the n-th on
abbrev pub items_past : ℕ → Items → Items
items_past zero vs = vs
items_past (suc n) no_items = no_items
items_past (suc n) (item v vs) = items_past n vs

suc_past : (vs : Items) (n : ℕ) (v : Value) → slice_get (item_list vs) n ≡ Some v → items_past n vs ≡ item v (items_past (suc n) vs)
suc_past no_items n v is = cc
suc_past (item w vs) zero v is = let same : w ≡ v = cc in ap (λ x. item x vs) same
suc_past (item w vs) (suc n) v is = suc_past vs n v is

-- the items from the n-th on begin with the n-th
pub past_item : (vs : Items) (n : ℕ) (v : Value) → slice_get (item_list vs) n ≡ Some v → items_past n vs ≡ item v (items_past (n + 1) vs)
past_item vs n v is = let next : suc n ≡ n + 1 = omega arith in suc_past vs n v is ∙ ap (λ k. item v (items_past k vs)) next

all_past : (vs : Items) → items_past (length (item_list vs)) vs ≡ no_items
all_past no_items = refl
all_past (item v vs) = all_past vs

-- from the end on there are no items
pub past_all : (vs : Items) (n : ℕ) → n ≡ length (item_list vs) → items_past n vs ≡ no_items
past_all vs n end = ap (λ k. items_past k vs) end ∙ all_past vs
