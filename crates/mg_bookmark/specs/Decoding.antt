-- For private clauses: the steps of reading a bookmark's spelling.
use Rattle.std.specs.Prelude.{◌≡◌, ℕ, List}
use Rattle.base64.specs.GeneralPurpose.{IsBytes, encode_of}
use Rattle.base64.specs.Engines.{url_safe_no_pad}
use Rattle.mg_value.specs.Value.{Value, list, item, no_items}

-- the text is the base64 of these bytes, and of no others
pub record IsDecoded (t bytes : List ℕ) : Type 0 where
  pub low : IsBytes bytes
  pub encoded : t ≡ encode_of url_safe_no_pad bytes
  pub only : (b : List ℕ) → IsBytes b → t ≡ encode_of url_safe_no_pad b → b ≡ bytes

-- an array of five values
abbrev pub five : Value → Value → Value → Value → Value → Value
five a b c d e = list (item a (item b (item c (item d (item e no_items)))))
