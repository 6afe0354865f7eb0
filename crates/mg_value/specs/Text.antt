-- JSON texts (RFC 8259): the value of a text, and the text of a value. Reading is `serde_json`'s: UTF-8, nested at
-- most 127 deep, and the last of repeated members counts. This project also requires that each number is an i64.
use Rattle.std.specs.Prelude.{◌≡◌, ℕ, List, [], ◌∷◌, ◌++◌, Bool, true, false, Option, Some, option_map, option_and_then, IsUtf8}
use Rattle.std.specs.Fmt.{signed_decimal}
use Rattle.json.specs.Print.{quoted, token_text}
use Rattle.json.specs.Token.{Token}
use Rattle.serde_json.specs.Data as parsed
use Rattle.serde_json.specs.Data.{Data}
use Rattle.serde_json.specs.Find.{as_i64, of_integer}
use Rattle.serde_json.specs.Read.{read}
use Rattle.serde_json.specs.Written.{comma_if}
use Rattle.mg_value.specs.Value.{Value, null, flag, whole, text, list, object, Items, no_items, item, Members, no_members, member}

-- the value of parsed data; None where a number is not an i64
abbrev mutual
  pub whole_of : Data → Option Value
  whole_of parsed.null = Some null
  whole_of (parsed.boolean b) = Some (flag b)
  whole_of (parsed.number n) = option_map whole (as_i64 n)
  whole_of (parsed.string s) = Some (text s)
  whole_of (parsed.array ds) = option_map list (whole_items ds)
  whole_of (parsed.object ms) = option_map object (whole_members ms)

  pub whole_items : parsed.Items → Option Items
  whole_items parsed.no_items = Some no_items
  whole_items (parsed.item d ds) = option_and_then (λ v. option_map (item v) (whole_items ds)) (whole_of d)

  pub whole_members : parsed.Members → Option Members
  whole_members parsed.no_members = Some no_members
  whole_members (parsed.member k d ms) = option_and_then (λ v. option_map (member k v) (whole_members ms)) (whole_of d)

-- the bytes are a JSON text, parsed as d
abbrev pub IsText : List ℕ → Data → Type 0
IsText bytes d = IsUtf8 bytes × (read bytes ≡ Some d)

-- the bytes are a text of this value
abbrev pub Reads : List ℕ → Value → Type 0
Reads bytes v = (d : Data) × IsText bytes d × (whole_of d ≡ Some v)

-- the data of a value: what its texts are parsed as, if it is held (`IsHeld`) and nests at most 127 deep
abbrev mutual
  pub data_of : Value → Data
  data_of null = parsed.null
  data_of (flag b) = parsed.boolean b
  data_of (whole z) = parsed.number (of_integer z)
  data_of (text s) = parsed.string s
  data_of (list vs) = parsed.array (data_items vs)
  data_of (object ms) = parsed.object (data_members ms)

  pub data_items : Items → parsed.Items
  data_items no_items = parsed.no_items
  data_items (item v vs) = parsed.item (data_of v) (data_items vs)

  pub data_members : Members → parsed.Members
  data_members no_members = parsed.no_members
  data_members (member k v ms) = parsed.member k (data_of v) (data_members ms)

-- the compact text of a value: no white space, strings with the shortest escapes, hex digits in lower case
abbrev mutual
  pub compact : Value → List ℕ
  compact null = token_text Token.null
  compact (flag b) = token_text (Token.boolean b)
  compact (whole z) = signed_decimal z
  compact (text s) = quoted s
  compact (list vs) = 91 ∷ compact_items false vs
  compact (object ms) = 123 ∷ compact_members false ms

  -- the items of an array that are left, with the closing bracket; a comma precedes each item but the array's first; `later`: the
  -- array's first item is not among those left
  pub compact_items : Bool → Items → List ℕ
  compact_items later no_items = 93 ∷ []
  compact_items later (item v vs) = comma_if later ++ (compact v ++ compact_items true vs)

  -- the members of an object that are left, with the closing brace; a comma precedes each member but the object's first; `later`: the
  -- object's first member is not among those left
  pub compact_members : Bool → Members → List ℕ
  compact_members later no_members = 125 ∷ []
  compact_members later (member k v ms) = comma_if later ++ (quoted k ++ 58 ∷ (compact v ++ compact_members true ms))
