-- The tables of a value: where the pieces of each array and object stand in the compact text, and copies of the texts and names that stand
-- there with escapes. A piece is an item of an array, or the name or the value of a member. The tables of a value do not depend on where
-- they are.
use Rattle.std.specs.Prelude.{ℕ, ◌+◌, ◌*◌, ◌==◌, ◌&&◌, ◌||◌, nat_lt, not, List, [], ◌∷◌, ◌++◌, length, Bool, true, if◌then◌else◌}
use Rattle.std.specs.Int.{w16, w32, to_le_bytes}
use Rattle.json.specs.Print.{quoted}
use Rattle.mg_value.specs.Text.{compact}
use Rattle.mg_value.specs.Value.{Value, null, flag, whole, text, list, object, Items, no_items, item, Members, no_members, member}
use Rattle.mg_packed.specs.declared.mark.Mark.{Mark}

-- whether no byte of the text needs an escape
abbrev pub is_plain : List ℕ → Bool
is_plain [] = true
is_plain (x ∷ s) = not ((x == 34) || (x == 92) || nat_lt x 32) && is_plain s

-- the copy of a text that stands with escapes in the compact text; nothing for a text that needs none
unfoldable pub copy_of : List ℕ → List ℕ
copy_of s = if is_plain s then [] else s

-- a piece of a container: the byte before it, if it is not the first, its text and its tables
pub record Piece : Type 0 where
  pub before : ℕ
  pub text : List ℕ
  pub tables : List ℕ

-- the tables of the pieces, one after another
abbrev pub deeper : List Piece → List ℕ
deeper [] = []
deeper (p ∷ ps) = p.tables ++ deeper ps

-- how many bytes the pieces take in the text, each with the byte before it
abbrev pub reach : List Piece → ℕ
reach [] = 0
reach (p ∷ ps) = 1 + length p.text + reach ps

-- where each piece begins: the place of the byte before it, counted from the container's first byte, and that of its tables, counted from
-- the first byte of the container's tables. The byte before the first piece is at `at`, and its tables are at `deep`
abbrev pub marks : ℕ → ℕ → List Piece → List Mark
marks at deep [] = []
marks at deep (p ∷ ps) = record { at = at; deep = deep } ∷ marks (at + (1 + length p.text)) (deep + length p.tables) ps

-- where the last piece ends
abbrev pub ending : List Piece → Mark
ending ps = record { at = reach ps; deep = length (deeper ps) }

-- a number below 2^32 in four bytes, the lowest first
unfoldable pub word : ℕ → List ℕ
word n = to_le_bytes w32 n

-- a number below 2^16 in two bytes, the lowest first
unfoldable pub half : ℕ → List ℕ
half n = to_le_bytes w16 n

-- a mark in eight bytes, or in four
abbrev pub mark_bytes : Bool → Mark → List ℕ
mark_bytes wide m = if wide then word m.at ++ word m.deep else half m.at ++ half m.deep

-- marks, one after another
abbrev pub all_bytes : Bool → List Mark → List ℕ
all_bytes wide [] = []
all_bytes wide (m ∷ ms) = mark_bytes wide m ++ all_bytes wide ms

-- whether the numbers up to those of this mark need four bytes
abbrev pub is_wide : Mark → Bool
is_wide m = not (nat_lt m.at 65536 && nat_lt m.deep 65536)

-- the count of pieces and the width of the marks in one number
abbrev pub head : ℕ → Bool → ℕ
head n wide = if wide then 2 * n + 1 else 2 * n

-- the tables of a container: those of its pieces, its marks, and its head
unfoldable pub container : List Piece → List ℕ
container ps = deeper ps ++ (all_bytes (is_wide (ending ps)) (marks 0 0 ps ++ ending ps ∷ []) ++ word (head (length ps) (is_wide (ending ps))))

-- the byte before a piece that is not the first
abbrev pub lead : Bool → ℕ → List ℕ
lead later before = if later then before ∷ [] else []

-- the texts of the pieces, with the byte before each but the container's first; `later`: the first is not among them
abbrev pub run : Bool → List Piece → List ℕ
run later [] = []
run later (p ∷ ps) = lead later p.before ++ (p.text ++ run true ps)

-- the tables of a value. A comma comes before a name or an item, and a colon before a member's value
abbrev mutual
  pub tables : Value → List ℕ
  tables null = []
  tables (flag b) = []
  tables (whole z) = []
  tables (text s) = copy_of s
  tables (list vs) = container (item_pieces vs)
  tables (object ms) = container (member_pieces ms)

  pub item_pieces : Items → List Piece
  item_pieces no_items = []
  item_pieces (item v vs) = record { before = 44; text = compact v; tables = tables v } ∷ item_pieces vs

  -- a name, and then a value
  pub member_pieces : Members → List Piece
  member_pieces no_members = []
  member_pieces (member k v ms) =
      record { before = 44; text = quoted k; tables = copy_of k } ∷ (record { before = 58; text = compact v; tables = tables v } ∷ member_pieces ms)
