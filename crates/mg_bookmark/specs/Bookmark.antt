-- Bookmarks, as in CouchDB's `_find`: a JSON array that says with which row a page ended, spelled in the URL-safe base64 of RFC 4648
-- without padding. What the array holds is this project's own choice.
use Rattle.std.specs.Prelude.{◌≡◌, ◌≢◌, ℕ, ◌≤◌, List, [], codes, Option, Some, None, unwrap_or}
use Rattle.std.specs.Str.{IsUtf8}
use Rattle.base64.specs.GeneralPurpose.{encode_of}
use Rattle.base64.specs.Engines.{url_safe_no_pad}
use Rattle.mg_value.specs.Value.{Value, null, text, list, Items, item, no_items, items_depth}
use Rattle.mg_value.specs.Held.{ItemsAreHeld}
use Rattle.mg_value.specs.Text.{Reads, compact}
use Rattle.mg_collate.specs.Direction.{direction_name}
use Rattle.mg_collate.specs.declared.direction.Direction.{Direction}

-- the place of a row: the index's design document (none for `_all_docs`) and name, the direction, the row's key and id
pub record RowPlace : Type 0 where
  pub ddoc : Option (List ℕ)
  pub name : List ℕ
  pub direction : Direction
  pub key : Items
  pub id : List ℕ

-- the design document as it is written, null for `_all_docs`
abbrev pub ddoc_value : Option (List ℕ) → Value
ddoc_value None = null
ddoc_value (Some s) = text s

-- the array of the five parts
abbrev pub place_value : RowPlace → Value
place_value p = list (item (ddoc_value p.ddoc) (item (text p.name) (item (text (direction_name p.direction)) (item (list p.key) (item (text p.id) no_items)))))

-- the spelling of a place, which is its bookmark
abbrev pub spelled : RowPlace → List ℕ
spelled p = encode_of url_safe_no_pad (compact (place_value p))

-- the text is the spelling of the place, whose array can be read back: its texts are UTF-8, its numbers are i64, the names of its
-- objects ascend, and it nests at most 127 deep
abbrev pub Spells : List ℕ → RowPlace → Type 0
Spells t p = (t ≡ spelled p) × Reads (compact (place_value p)) (place_value p)

-- JSON text can carry the place: the values of its key nest at most 125 deep, two less than a text that can be read, because they
-- are in an array within the array; the key's numbers are i64, and the names of its objects ascend; and each text is UTF-8
pub record CanBeSpelled (p : RowPlace) : Type 0 where
  pub shallow : items_depth p.key ≤ 125
  pub held : ItemsAreHeld p.key
  pub key : IsUtf8 (compact (list p.key))
  pub ddoc : IsUtf8 (unwrap_or p.ddoc [])
  pub name : IsUtf8 p.name
  pub id : IsUtf8 p.id

-- ---- reading a text

-- a text that a client sends back has this reading: `Some None`, the beginning, if the text is `nil`; `Some (Some p)` if the text
-- spells the place p; `None` if the text is not a bookmark. A law says that each text has exactly one reading
abbrev pub IsReadAs : List ℕ → Option (Option RowPlace) → Type 0
IsReadAs t (Some None) = t ≡ codes "nil"
IsReadAs t (Some (Some p)) = (t ≢ codes "nil") × Spells t p
IsReadAs t None = (t ≢ codes "nil") × ((p : RowPlace) → ¬ Spells t p)
