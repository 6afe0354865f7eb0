-- The compact text of a value is that of its data.
use Rattle.std.proofs.Common.{◌≡◌, ◌∷◌, ◌++◌, Bool, true, false, pos, negsuc, refl, ap, ap₂}
use Rattle.serde_json.specs.Written.{comma_if, compact_text, items_text, members_text}
use Rattle.json.specs.Print.{quoted}
use Rattle.mg_value.specs.Value.{Value, null, flag, whole, text, list, object, Items, no_items, item, Members, no_members, member}
use Rattle.mg_value.specs.Text.{data_of, data_items, data_members, compact, compact_items, compact_members}

mutual
  pub compact_text-data_of : (v : Value) → compact_text (data_of v) ≡ compact v
  compact_text-data_of null = refl
  compact_text-data_of (flag b) = refl
  compact_text-data_of (whole (pos n)) = refl
  compact_text-data_of (whole (negsuc n)) = refl
  compact_text-data_of (text s) = refl
  compact_text-data_of (list vs) = ap (λ t. 91 ∷ t) (items_text-data_items false vs)
  compact_text-data_of (object ms) = ap (λ t. 123 ∷ t) (members_text-data_members false ms)

  items_text-data_items : (later : Bool) (vs : Items) → items_text later (data_items vs) ≡ compact_items later vs
  items_text-data_items later no_items = refl
  items_text-data_items later (item v vs) = ap (λ t. comma_if later ++ t) (ap₂ (λ a b. a ++ b) (compact_text-data_of v) (items_text-data_items true vs))

  members_text-data_members : (later : Bool) (ms : Members) → members_text later (data_members ms) ≡ compact_members later ms
  members_text-data_members later no_members = refl
  members_text-data_members later (member k v ms) = ap (λ t. comma_if later ++ (quoted k ++ 58 ∷ t)) (ap₂ (λ a b. a ++ b) (compact_text-data_of v) (members_text-data_members true ms))
