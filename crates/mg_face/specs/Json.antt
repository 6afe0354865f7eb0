-- The value of a JSON text (RFC 8259), as `serde_json` reads it, where a number whose value is whole is whole.
use Rattle.std.specs.Prelude.{ℕ, ◌-◌, Bool, false, List, length, take, Option, Some, None, is_some, option_and_then, if◌then◌else◌}
use Rattle.std.specs.Str.{is_utf8}
use Rattle.json.specs.Json.{document}
use Rattle.json.specs.Find.{as_str, get}
use Rattle.serde_json.specs.Read.{read}
use Rattle.mg_value.specs.Value.{Value, text, member_of}
use Rattle.mg_face.specs.Numbers.{value_of}

-- the value that a text gives; `None`: it is no JSON text, or a number of it is not whole
abbrev pub json_of : List ℕ → Option Value
json_of bytes = if is_utf8 bytes then option_and_then value_of (read bytes) else None

-- the bytes are a JSON text, whatever its numbers
abbrev pub is_json : List ℕ → Bool
is_json bytes = if is_utf8 bytes then is_some (read bytes) else false

-- the value of a line: of a text and one more byte, its line feed
abbrev pub value_of_line : List ℕ → Option Value
value_of_line line = json_of (take (length line - 1) line)

-- the bytes of a text; `None` for any other value
abbrev pub string_of : Value → Option (List ℕ)
string_of (text s) = Some s
string_of v = None

-- the text that an object has at a name
abbrev pub string_at : List ℕ → Value → Option (List ℕ)
string_at name v = option_and_then string_of (member_of name v)

-- the text that the object of a JSON text (RFC 8259) has at a name, whatever its numbers; of members with one name the last counts
abbrev pub text_at : List ℕ → List ℕ → Option (List ℕ)
text_at name bytes = if is_utf8 bytes then option_and_then (λ j. option_and_then as_str (get name j)) (document bytes) else None
