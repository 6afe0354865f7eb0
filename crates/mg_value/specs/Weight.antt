-- For proofs: a size of values, by which every part is smaller than the whole.
use Rattle.std.specs.Prelude.{ℕ, ◌+◌}
use Rattle.mg_value.specs.Value.{Value, null, flag, whole, text, list, object, Items, no_items, item, Members, no_members, member}

-- 1 for the value, 1 for each value inside, and 1 for the end of each array and object
abbrev mutual
  pub weight : Value → ℕ
  weight null = 1
  weight (flag b) = 1
  weight (whole z) = 1
  weight (text s) = 1
  weight (list vs) = 1 + items_weight vs
  weight (object ms) = 1 + members_weight ms

  pub items_weight : Items → ℕ
  items_weight no_items = 1
  items_weight (item v vs) = weight v + items_weight vs

  pub members_weight : Members → ℕ
  members_weight no_members = 1
  members_weight (member k v ms) = weight v + members_weight ms
