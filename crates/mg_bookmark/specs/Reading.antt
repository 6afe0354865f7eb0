-- The reading of a bookmark's text, as a function that undoes the steps of writing: base64 (RFC 4648), JSON (RFC 8259), the parts. A law
-- says that its result is the one that `IsReadAs` allows.
use Rattle.std.specs.Prelude.{ℕ, List, codes, ◌&&◌, Option, Some, None, option_map, option_and_then, if◌then◌else◌}
use Rattle.std.specs.Str.{bytes_eq, is_utf8}
use Rattle.base64.specs.GeneralPurpose.{decoded_of}
use Rattle.base64.specs.Engines.{url_safe_no_pad}
use Rattle.serde_json.specs.Read.{read}
use Rattle.mg_value.specs.Value.{Value, null, text, list, item, no_items}
use Rattle.mg_value.specs.Text.{compact, whole_of}
use Rattle.mg_collate.specs.Direction.{direction_named}
use Rattle.mg_bookmark.specs.Bookmark.{RowPlace, place_value, spelled}

-- the design document that a value names: `Some (Some s)` for a string s, `Some None` for null, `None` for any other value
abbrev pub ddoc_in : Value → Option (Option (List ℕ))
ddoc_in null = Some None
ddoc_in (text s) = Some (Some s)
ddoc_in v = None

-- the place that an array of its five parts gives; `None` for any other value
abbrev pub place_in : Value → Option RowPlace
place_in (list (item d (item (text name) (item (text word) (item (list key) (item (text id) no_items)))))) =
    option_and_then (λ ddoc. option_map (λ direction. record { ddoc = ddoc; name = name; direction = direction; key = key; id = id }) (direction_named word)) (ddoc_in d)
place_in v = None

-- the value of UTF-8 bytes that are a JSON text with i64 numbers; None for any other bytes
abbrev pub value_in : List ℕ → Option Value
value_in bytes = if is_utf8 bytes then option_and_then whole_of (read bytes) else None

-- the place, if the text is its spelling and the text of its array is UTF-8
abbrev pub if_spelled : List ℕ → RowPlace → Option RowPlace
if_spelled t p = if bytes_eq t (spelled p) && is_utf8 (compact (place_value p)) then Some p else None

-- the place that a text spells; `None` if it spells none
abbrev pub place_read : List ℕ → Option RowPlace
place_read t = option_and_then (if_spelled t) (option_and_then place_in (option_and_then value_in (decoded_of url_safe_no_pad t)))

-- the reading of a text: `Some None` for `nil`, `Some (Some p)` if it spells the place p, `None` if it is not a bookmark
abbrev pub bookmark_read : List ℕ → Option (Option RowPlace)
bookmark_read t = if bytes_eq t (codes "nil") then Some None else option_map Some (place_read t)
