-- Parts weigh less than the value.
use Rattle.std.proofs.Common.{◌≡◌, ℕ, zero, suc, ◌<◌, Some, ap, arith}
use Rattle.std.specs.List.{slice_get}
use Rattle.mg_value.specs.Value.{Value, null, flag, whole, text, list, object, Items, no_items, item, Members, no_members, member, item_list}
use Rattle.mg_value.specs.Weight.{weight, items_weight, members_weight}

pub some_weight : (v : Value) → 0 < weight v
some_weight null = omega arith
some_weight (flag b) = omega arith
some_weight (whole z) = omega arith
some_weight (text s) = omega arith
some_weight (list vs) = omega arith
some_weight (object ms) = omega arith

pub items_some : (vs : Items) → 0 < items_weight vs
items_some no_items = omega arith
items_some (item v vs) = omega (arith, items_some vs)

pub members_some : (ms : Members) → 0 < members_weight ms
members_some no_members = omega arith
members_some (member k v ms) = omega (arith, members_some ms)

pub item_lighter : (vs : Items) (n : ℕ) (v : Value) → slice_get (item_list vs) n ≡ Some v → weight v < items_weight vs
item_lighter no_items n v is = absurd cc
item_lighter (item w vs) zero v is = let same : w ≡ v = cc in omega (arith, ap weight same, items_some vs)
item_lighter (item w vs) (suc n) v is = omega (arith, item_lighter vs n v is)
