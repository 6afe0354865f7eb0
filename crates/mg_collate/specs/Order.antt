-- The order of values, after the order of JSON types in CouchDB's view collation: null, false, true, numbers, strings,
-- arrays, objects. Unlike in CouchDB, strings are ordered by their bytes, and members by name.
-- Each value is written out as a list of whole numbers, and these lists are ordered as in a dictionary, by the first number that differs.
use Rattle.std.specs.Prelude.{ℕ, suc, ℤ, pos, List, [], ◌∷◌, ◌++◌, true, false}
use Rattle.std.specs.Ordering.{int_cmp}
use Rattle.std.specs.declared.cmp.Ordering.{Ordering}
use Rattle.std.specs.Cmp.Lexicographic.{slice_cmp}
use Rattle.mg_value.specs.Value.{Value, null, flag, whole, text, list, object, Items, no_items, item, Members, no_members, member}

-- a string: each byte plus 1, then 0, which is below every byte
abbrev pub flat_text : List ℕ → List ℤ
flat_text [] = pos 0 ∷ []
flat_text (b ∷ s) = pos (suc b) ∷ flat_text s

-- first the type, from 1 for null to 7 for objects, and then what the value holds
abbrev mutual
  pub flat : Value → List ℤ
  flat null = pos 1 ∷ []
  flat (flag false) = pos 2 ∷ []
  flat (flag true) = pos 3 ∷ []
  flat (whole z) = pos 4 ∷ z ∷ []
  flat (text s) = pos 5 ∷ flat_text s
  flat (list vs) = pos 6 ∷ flat_items vs
  flat (object ms) = pos 7 ∷ flat_members ms

  -- each item in turn, then 0, which is below every type
  pub flat_items : Items → List ℤ
  flat_items no_items = pos 0 ∷ []
  flat_items (item v vs) = flat v ++ flat_items vs

  -- each name, as a string with its type, and its value in turn, then 0
  pub flat_members : Members → List ℤ
  flat_members no_members = pos 0 ∷ []
  flat_members (member k v ms) = (pos 5 ∷ flat_text k) ++ (flat v ++ flat_members ms)

-- the order of two values
abbrev pub value_order : Value → Value → Ordering
value_order a b = slice_cmp int_cmp (flat a) (flat b)

-- the order of two keys, as arrays
abbrev pub items_order : Items → Items → Ordering
items_order a b = value_order (list a) (list b)

-- the members of the first object, and then those of the second
abbrev pub joined_members : Members → Members → Members
joined_members no_members ns = ns
joined_members (member k v ms) ns = member k v (joined_members ms ns)
