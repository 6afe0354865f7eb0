-- For private clauses: where a search begins among rows that are in order, where it ends, and what it finds on the way.
use Rattle.std.specs.Prelude.{ℕ, Bool, true, false, not, ◌&&◌, List, [], ◌∷◌, Option, Some, None, if◌then◌else◌}
use Rattle.std.specs.Option.{option_map_or}
use Rattle.std.specs.Ordering.{is_gt}
use Rattle.std.specs.declared.cmp.Ordering.{Ordering}
use Rattle.std.specs.declared.cmp.Ordering.TheVariants.{Less, Greater}
use Rattle.mg_collate.specs.Direction.{directed}
use Rattle.mg_collate.specs.declared.direction.Direction.{Direction}
use Rattle.mg_collate.specs.Row.{RowValue}
use Rattle.mg_normal.specs.Normal.{NormalForm, normal_holds}
use Rattle.mg_range.specs.RangeSide.{is_early, is_late, side_of}
use Rattle.mg_range.specs.Range.{Range}
use Rattle.mg_range.specs.declared.side.RangeSide.{RangeSide}
use Rattle.mg_shard.specs.Documents.{KeptDocuments, form_at}
use Rattle.mg_value.specs.Value.{item, item_list, no_items, text}

-- this ordering puts an item past the row after which a search begins; true without such a row
abbrev pub is_beyond : Direction → Option Ordering → Bool
is_beyond direction order = option_map_or (λ o. is_gt (directed direction o)) order true

-- an item on this side of the range, and with this ordering against the row after which a search begins, is reached: it is at or after
-- the place where the search begins
abbrev pub reaches : Direction → RangeSide → Option Ordering → Bool
reaches direction side order = not (is_early direction side) && is_beyond direction order

-- compares the place where a search begins to an item: the place is before an item that is reached, and after any other, in the direction
abbrev pub begin_order : Direction → RangeSide → Option Ordering → Ordering
begin_order direction side order = directed direction (if reaches direction side order then Less else Greater)

-- the row comes after the range in a direction
abbrev pub is_late_row : Direction → Range → RowValue → Bool
is_late_row direction range r = is_late direction (side_of range (item_list r.0))

-- there is a served document of this id, and the selector holds of it
abbrev pub holds_at : NormalForm → KeptDocuments → List ℕ → Bool
holds_at normal ds id = option_map_or (λ form. normal_holds normal (Some form)) (form_at ds id) false

-- of the rows before the first one for which `late` is true: all for which `holds` is true
abbrev pub walked_all : (RowValue → Bool) → (RowValue → Bool) → List RowValue → List RowValue
walked_all late holds [] = []
walked_all late holds (r ∷ rows) = if late r then [] else if holds r then r ∷ walked_all late holds rows else walked_all late holds rows

-- the row of an id in the index of all documents
abbrev pub id_row : List ℕ → RowValue
id_row id = (item (text id) no_items, id)

-- an option as a list of at most one item
abbrev pub list_of_option : {X : Type 0} → Option X → List X
list_of_option None = []
list_of_option (Some x) = x ∷ []
