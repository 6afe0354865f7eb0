-- Paths and the parts of a value, after the field syntax of CouchDB's `_find`: contracts see a `Path` as the list of
-- its steps, and a step as its bytes.
use Rattle.std.specs.Prelude.{ℕ, Bool, true, false, ◌&&◌, ◌==◌, if◌then◌else◌, List, [], ◌∷◌, Option, Some, None, option_and_then, slice_get}
use Rattle.std.specs.List.{list_any, fold}
use Rattle.std.specs.Option.{option_map_or, unwrap_or}
use Rattle.std.specs.Str.{all_ascii_digits}
use Rattle.std.specs.Str.Parse.{digits_value}
use Rattle.mg_value.specs.Value.{Value, list, object, no_members, put, get_member, item_list}

-- the character is a dot
abbrev pub is_dot : ℕ → Bool
is_dot c = c == 46

-- the character is a backslash
abbrev pub is_backslash : ℕ → Bool
is_backslash c = c == 92

-- the text is empty
abbrev pub is_empty : List ℕ → Bool
is_empty [] = true
is_empty (c ∷ cs) = false

-- the pieces, with the character c at the front of the first one; without pieces, c alone is a piece
abbrev pub before_first_piece : ℕ → List (List ℕ) → List (List ℕ)
before_first_piece c [] = (c ∷ []) ∷ []
before_first_piece c (step ∷ steps) = (c ∷ step) ∷ steps

-- the pieces of a text between its dots, including the empty ones; a backslash and a dot right after it are a dot
-- within a piece
abbrev pub pieces_of : List ℕ → List (List ℕ)
pieces_of [] = [] ∷ []
pieces_of (c ∷ []) = if is_dot c then [] ∷ [] ∷ [] else (c ∷ []) ∷ []
pieces_of (c ∷ d ∷ cs) =
    if is_dot c then [] ∷ pieces_of (d ∷ cs)
    else if is_backslash c && is_dot d then before_first_piece d (pieces_of cs)
    else before_first_piece c (pieces_of (d ∷ cs))

-- the steps of a text: its pieces; None where any piece is empty
abbrev pub steps_of : List ℕ → Option (List (List ℕ))
steps_of t = if list_any is_empty (pieces_of t) then None else Some (pieces_of t)

-- the step is a decimal number without leading zeros
abbrev pub is_place : List ℕ → Bool
is_place [] = false
is_place (c ∷ cs) = if c == 48 then is_empty cs else all_ascii_digits (c ∷ cs)

-- the place in an array that a step names, from 0, however large; None if the step is not a decimal number without leading zeros
abbrev pub item_place : List ℕ → Option ℕ
item_place step = if is_place step then Some (digits_value 10 step) else None

-- the part one step into a value: the member of that name, or the item at that place; None if it is missing
abbrev pub part_of_step : List ℕ → Value → Option Value
part_of_step step (object ms) = get_member step ms
part_of_step step (list vs) = option_and_then (λ n. slice_get (item_list vs) n) (item_place step)
part_of_step step _ = None

-- the part of a value that the steps lead to; None if it is missing
abbrev pub part_of : List (List ℕ) → Value → Option Value
part_of [] v = Some v
part_of (step ∷ steps) v = option_and_then (part_of steps) (part_of_step step v)

-- the value with the part placed under the steps, as names of nested objects, in place of what is there; without steps, the part
-- itself; an object that is missing on the way is made; if a value on the way is not an object, nothing changes
abbrev pub placed : List (List ℕ) → Value → Value → Value
placed [] part v = part
placed (step ∷ steps) part (object ms) = object (put step (placed steps part (unwrap_or (get_member step ms) (object no_members))) ms)
placed (step ∷ steps) part v = v

-- `projected` with the part of v at one more path; unchanged if v has no such part
abbrev pub with_part : Value → Value → List (List ℕ) → Value
with_part v projected steps = option_map_or (λ part. placed steps part projected) (part_of steps v) projected

-- the projection of a value: an object in which the value's parts at the paths are placed, one after another
abbrev pub projection_of : List (List (List ℕ)) → Value → Value
projection_of paths v = fold (with_part v) (object no_members) paths
