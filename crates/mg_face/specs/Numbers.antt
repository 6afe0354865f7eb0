-- The numbers of a body. A number whose value is whole is that number, whatever its spelling: `1.0`, `1e3` and `-0` are 1, 1000 and 0. The value
-- of a number with a point or an exponent, of `-0`, and of one with more than 64 bits is the nearest 64-bit float (IEEE 754), as in `serde_json`.
use Rattle.std.specs.Prelude.{ℕ, ◌*◌, ◌/◌, ◌%◌, ◌^◌, ◌==◌, ◌&&◌, nat_le, ℤ, pos, neg_ℤ, Bool, List, Float, Option, Some, None, option_map, option_and_then, if◌then◌else◌}
use Rattle.std.specs.Float.{nan, inf, fin}
use Rattle.std.specs.Float.Ieee.{up, down}
use Rattle.serde_json.specs.Data as parsed
use Rattle.serde_json.specs.Data.{Num, Data, unsigned, negative, float}
use Rattle.serde_json.specs.Find.{as_i64}
use Rattle.serde_json.specs.Read.{number_of}
use Rattle.mg_value.specs.Value.{Value, null, flag, whole, text, list, object, Items, no_items, item, Members, no_members, member}

-- n, or -n
abbrev pub with_sign : Bool → ℕ → ℤ
with_sign is_negative n = if is_negative then neg_ℤ (pos n) else pos n

-- the whole number that a float is, from -2 ^ 53 to 2 ^ 53, where each whole number is a float; a finite float is m times 2 ^ e, the fraction
-- m * up e / down e
abbrev pub whole_float : Float → Option ℤ
whole_float nan = None
whole_float (inf s) = None
whole_float (fin s m e) =
    if (m * up e % down e == 0) && nat_le (m * up e / down e) (2 ^ 53) then Some (with_sign s (m * up e / down e)) else None

-- the whole number that a number is
abbrev pub whole_number : Num → Option ℤ
whole_number (unsigned n) = as_i64 (unsigned n)
whole_number (negative z) = as_i64 (negative z)
whole_number (float x) = whole_float x

-- the whole number that a number's text stands for
abbrev pub whole_in : List ℕ → Option ℤ
whole_in s = option_and_then whole_number (number_of s)

-- the value of parsed data; `None`: a number is not whole
abbrev mutual
  pub value_of : Data → Option Value
  value_of parsed.null = Some null
  value_of (parsed.boolean b) = Some (flag b)
  value_of (parsed.number n) = option_map whole (whole_number n)
  value_of (parsed.string s) = Some (text s)
  value_of (parsed.array ds) = option_map list (value_items ds)
  value_of (parsed.object ms) = option_map object (value_members ms)

  pub value_items : parsed.Items → Option Items
  value_items parsed.no_items = Some no_items
  value_items (parsed.item d ds) = option_and_then (λ v. option_map (item v) (value_items ds)) (value_of d)

  pub value_members : parsed.Members → Option Members
  value_members parsed.no_members = Some no_members
  value_members (parsed.member k d ms) = option_and_then (λ v. option_map (member k v) (value_members ms)) (value_of d)
