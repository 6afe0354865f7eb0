-- Rows of an index as bytes whose order is the order of rows: an order-preserving encoding of tuples, as in FoundationDB's
-- tuple layer or the keys of SQLite4. Each function puts the bytes of a value before the bytes that follow it.
use Rattle.std.specs.Prelude.{ℕ, zero, suc, ◌+◌, ◌-◌, ◌/◌, ◌%◌, ℤ, pos, negsuc, List, [], ◌∷◌, true, false}
use Rattle.std.specs.declared.cmp.Ordering.{Ordering}
use Rattle.std.specs.Cmp.Lexicographic.{slice_cmp}
use Rattle.std.specs.Ordering.{nat_cmp}
use Rattle.mg_value.specs.Value.{Value, null, flag, whole, text, list, object, Items, no_items, item, Members, no_members, member}
use Rattle.mg_collate.specs.Row.{RowValue}

-- the order of bytes, which is that of `memcmp`
abbrev pub bytes_order : List ℕ → List ℕ → Ordering
bytes_order = slice_cmp nat_cmp

-- the lowest k bytes of n, the most significant first
abbrev pub big_endian : ℕ → ℕ → List ℕ → List ℕ
big_endian zero n rest = rest
big_endian (suc k) n rest = big_endian k (n / 256) (n % 256 ∷ rest)

-- a whole number of 64 bits with its sign bit flipped, so that the lowest is 0
abbrev pub sign_turned : ℤ → ℕ
sign_turned (pos n) = n + 9223372036854775808
sign_turned (negsuc n) = 9223372036854775808 - suc n

-- a string: each byte plus 1, then 0
abbrev pub text_before : List ℕ → List ℕ → List ℕ
text_before [] rest = 0 ∷ rest
text_before (b ∷ s) rest = suc b ∷ text_before s rest

-- first the type, from 1 for null to 7 for objects, and then what the value holds
abbrev mutual
  pub value_before : Value → List ℕ → List ℕ
  value_before null rest = 1 ∷ rest
  value_before (flag false) rest = 2 ∷ rest
  value_before (flag true) rest = 3 ∷ rest
  value_before (whole z) rest = 4 ∷ big_endian 8 (sign_turned z) rest
  value_before (text s) rest = 5 ∷ text_before s rest
  value_before (list vs) rest = 6 ∷ items_before vs rest
  value_before (object ms) rest = 7 ∷ members_before ms rest

  -- each item, then 0, which is below every type
  pub items_before : Items → List ℕ → List ℕ
  items_before no_items rest = 0 ∷ rest
  items_before (item v vs) rest = value_before v (items_before vs rest)

  -- each name, as a string, with its value, then 0
  pub members_before : Members → List ℕ → List ℕ
  members_before no_members rest = 0 ∷ rest
  members_before (member k v ms) rest = 5 ∷ text_before k (value_before v (members_before ms rest))

-- the values of the first columns of a key, one after another, without the byte that ends a key
abbrev pub columns_before : Items → List ℕ → List ℕ
columns_before no_items rest = rest
columns_before (item v vs) rest = value_before v (columns_before vs rest)

-- a row: its key, as an array without its type, then the bytes of the id
abbrev pub row_bytes : RowValue → List ℕ
row_bytes row = items_before row.0 row.1

-- the bytes of a row in two parts: those of the key, with the byte that ends it, and those of the id
abbrev pub row_parts : RowValue → List ℕ × List ℕ
row_parts row = (items_before row.0 [], row.1)
