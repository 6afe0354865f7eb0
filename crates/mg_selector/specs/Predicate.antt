-- Whether `$type`, `$in`, `$nin`, `$size`, `$mod`, `$all`, `$elemMatch` and `$allMatch` hold of a value in the plain sense, after the
-- operator tables of the CouchDB 3.x API reference (`Meaning` has the other operators). What `$all` means without arguments, and with
-- an array as its only argument, is this project's own choice.
use Rattle.std.specs.Prelude.{ℕ, ℤ, Bool, true, false, not, ◌&&◌, ◌||◌, ◌==◌, length, int_rem}
use Rattle.std.specs.Ordering.{is_eq, int_eq}
use Rattle.mg_value.specs.Value.{Value, null, flag, whole, text, list, object, Items, no_items, item, item_list}
use Rattle.mg_collate.specs.Order.{value_order}
use Rattle.mg_selector.specs.declared.json_type.JsonType.{JsonType}
use Rattle.mg_selector.specs.declared.json_type.JsonType.TheVariants as json_type

-- the two values are equal in the collation order
abbrev pub are_equal : Value → Value → Bool
are_equal v w = is_eq (value_order v w)

-- some item has p
abbrev pub some_item : (Value → Bool) → Items → Bool
some_item p no_items = false
some_item p (item v vs) = p v || some_item p vs

-- each item has p
abbrev pub every_item : (Value → Bool) → Items → Bool
every_item p no_items = true
every_item p (item v vs) = p v && every_item p vs

-- there is no item
abbrev pub is_empty : Items → Bool
is_empty no_items = true
is_empty (item v vs) = false

-- there are items, and each has p
abbrev pub every_of_some : (Value → Bool) → Items → Bool
every_of_some p vs = not (is_empty vs) && every_item p vs

-- the value equals some item
abbrev pub is_among : Items → Value → Bool
is_among ws v = some_item (are_equal v) ws

-- the value is of the type
abbrev pub has_type : JsonType → Value → Bool
has_type json_type.Null null = true
has_type json_type.Boolean (flag b) = true
has_type json_type.Number (whole z) = true
has_type json_type.String (text s) = true
has_type json_type.Array (list vs) = true
has_type json_type.Object (object ms) = true
has_type t v = false

-- an array: some item equals some argument; any other value: the value equals some argument
abbrev pub meets_some : Items → Value → Bool
meets_some ws (list vs) = some_item (is_among ws) vs
meets_some ws v = is_among ws v

-- the value is an array of n items
abbrev pub has_size : ℕ → Value → Bool
has_size n (list vs) = length (item_list vs) == n
has_size n v = false

-- the value is a number that, divided by d, leaves r as its remainder, which has the number's own sign; `$mod` does not take 0 as d
abbrev pub has_remainder : ℤ → ℤ → Value → Bool
has_remainder d r (whole z) = int_eq (int_rem z d) r
has_remainder d r v = false

-- there is one argument, and the value equals it
abbrev pub equals_only : Items → Value → Bool
equals_only (item w no_items) v = are_equal v w
equals_only ws v = false

-- the value is an array that has every argument as an item, or that equals the only argument; false without arguments
abbrev pub contains_all : Items → Value → Bool
contains_all ws (list vs) = every_of_some (is_among vs) ws || equals_only ws (list vs)
contains_all ws v = false

-- the value is an array, and some element has p
abbrev pub has_element : (Value → Bool) → Value → Bool
has_element p (list vs) = some_item p vs
has_element p v = false

-- the value is an array that is not empty, and each element has p
abbrev pub has_only_elements : (Value → Bool) → Value → Bool
has_only_elements p (list vs) = every_of_some p vs
has_only_elements p v = false
