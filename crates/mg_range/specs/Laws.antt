-- The laws of key ranges: a search of a usable index within the range loses no document that the query finds; keys and rows before, in
-- and past a range stand together; and a key in the range shows that the decided atoms hold.
use Rattle.std.specs.Prelude.{◌≡◌, ◌≤◌, ◌&&◌, ℕ, List, false, true, Some, IsSome, is_some}
use Rattle.std.specs.List.{All}
use Rattle.std.specs.Ordering.{is_le}
use Rattle.mg_value.specs.Value.{Value}
use Rattle.mg_value.specs.View.{items_of}
use Rattle.mg_collate.specs.Order.{items_order}
use Rattle.mg_collate.specs.Row.{row_value_order}
use Rattle.mg_path.specs.Part.{part_of}
use Rattle.mg_selector.specs.Meaning.{holds_in}
use Rattle.mg_selector.specs.Selector.{Selector}
use Rattle.mg_selector.specs.declared.sense.Sense.TheVariants.{Plain}
use Rattle.mg_normal.specs.Atoms.{Atom, atoms_of}
use Rattle.mg_normal.specs.Normal.{NormalForm, IsNormalOf, all_hold, normal_holds}
use Rattle.mg_index.specs.Choice.{is_usable, id_path, rev_path}
use Rattle.mg_index.specs.Definition.{Steps}
use Rattle.mg_index.specs.Key.{key_of}
use Rattle.mg_range.specs.Decided.{decides_of, undecided}
use Rattle.mg_range.specs.RangeSide.{has_key, side_of, side_rank}
use Rattle.mg_range.specs.Range.{Range, in_range, range_of}

-- the document has the part at the path
abbrev pub Has : Value → Steps → Type 0
Has v path = IsSome (part_of path v)

-- the document has each column, and this is its key
abbrev pub HasKey : List Steps → Value → List Value → Type 0
HasKey columns v key = key_of columns v ≡ Some key

-- if an index is usable for a selector and a sort, and the selector holds of a document that has `_id`, `_rev` and every path of the
-- sort, then the document has every column, and the document's key is in the range
abbrev pub RangesAreComplete : Type 0
RangesAreComplete =
    (s : Selector) (sort columns : List Steps) (v : Value) → is_usable (atoms_of s) sort columns ≡ true
    → Has v id_path → Has v rev_path → All (Has v) sort → holds_in s Plain (Some v) ≡ true
    → (key : List Value) × HasKey columns v key × (in_range (atoms_of s) columns key ≡ true)

-- among keys in order, those before a range come first, then those in the range, then those past it
abbrev pub RangesStandTogether : Type 0
RangesStandTogether =
    (range : Range) (a b : List Value) → is_le (items_order (items_of a) (items_of b)) ≡ true → side_rank (side_of range a) ≤ side_rank (side_of range b)

-- among rows in order, which is by key and then by id, those before a range come first, then those in it, then those past it
abbrev pub RowsStandTogether : Type 0
RowsStandTogether =
    (range : Range) (a b : List Value) (i j : List ℕ) → is_le (row_value_order (items_of a, i) (items_of b, j)) ≡ true
    → side_rank (side_of range a) ≤ side_rank (side_of range b)

-- if a document has every column, the atoms hold of the document if and only if their range has its key and the undecided atoms hold
abbrev pub RangeDecidesAtoms : Type 0
RangeDecidesAtoms =
    (atoms : List Atom) (columns : List Steps) (v : Value) (key : List Value) → HasKey columns v key
    → all_hold (Some v) atoms ≡ (has_key (range_of atoms columns) key && all_hold (Some v) (undecided atoms columns))

-- if a document has every column, and a normal form has nothing besides atoms, each of which the range decides, the normal form holds of
-- the document if and only if the range has the document's key
abbrev pub RangeDecidesForm : Type 0
RangeDecidesForm =
    (n : NormalForm) (columns : List Steps) (v : Value) (key : List Value) → is_some n.rest ≡ false → decides_of n.atoms columns ≡ true
    → HasKey columns v key → normal_holds n (Some v) ≡ has_key (range_of n.atoms columns) key

-- a selector with such a normal form holds of a document that has every column if and only if the range has the document's key
abbrev pub RangeDecides : Type 0
RangeDecides =
    (s : Selector) (n : NormalForm) (columns : List Steps) (v : Value) (key : List Value) → IsNormalOf s n
    → is_some n.rest ≡ false → decides_of n.atoms columns ≡ true → HasKey columns v key
    → holds_in s Plain (Some v) ≡ has_key (range_of n.atoms columns) key
