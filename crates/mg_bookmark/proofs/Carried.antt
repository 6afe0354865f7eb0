-- A place that JSON text carries is read back from its spelling.
use Rattle.std.proofs.Common.{◌≡◌, ℕ, suc, ◌≤◌, List, [], ◌∷◌, ◌++◌, Bool, true, false, Option, Some, None, IsUtf8, codes, refl, ap, ◌∙◌, arith}
use Rattle.std.specs.List.{AllByRecursion}
use Rattle.std.specs.Prelude.{unwrap_or}
use Rattle.std.proofs.lemmas.Str.{IsUtf8-append}
use Rattle.base64.proofs.OnLiterals.{base64_on_literals}
use Rattle.json.proofs.Printed.Utf8.{IsUtf8-are_ascii, IsUtf8-quoted}
use Rattle.serde_json.specs.Written.{comma_if}
use Rattle.mg_value.specs.Value.{text, list, Items, no_items, item, depth, item_list, items_depth}
use Rattle.mg_value.specs.Held.{IsHeld}
use Rattle.mg_value.specs.Text.{Reads, compact, compact_items}
use Rattle.mg_value.proofs.Compact.{reads_compact}
use Rattle.mg_collate.specs.Direction.{direction_name}
use Rattle.mg_collate.specs.declared.direction.Direction.{Direction}
use Rattle.mg_collate.specs.declared.direction.Direction.TheVariants.{Asc, Desc}
use Rattle.mg_bookmark.specs.Bookmark.{CanBeSpelled, RowPlace, Spells, ddoc_value, place_value, spelled}
use Rattle.mg_bookmark.specs.Reading.{bookmark_read, place_read}
use Rattle.mg_bookmark.proofs.Readings.{bookmark_of_place, read_of_spelled}

-- ---- the array of a place

comma_utf8 : (later : Bool) → IsUtf8 (comma_if later)
comma_utf8 true = IsUtf8-are_ascii (44 ∷ []) refl
comma_utf8 false = IsUtf8-are_ascii [] refl

items_utf8 : (later : Bool) (vs : Items) → AllByRecursion (λ v. IsUtf8 (compact v)) (item_list vs) → IsUtf8 (compact_items later vs)
items_utf8 later no_items h = IsUtf8-are_ascii (93 ∷ []) refl
items_utf8 later (item v vs) h =
    IsUtf8-append (comma_if later) (compact v ++ compact_items true vs) (comma_utf8 later) (IsUtf8-append (compact v) (compact_items true vs) h.0 (items_utf8 true vs h.1))

ddoc_utf8 : (d : Option (List ℕ)) → IsUtf8 (unwrap_or d []) → IsUtf8 (compact (ddoc_value d))
ddoc_utf8 None h = IsUtf8-are_ascii (110 ∷ 117 ∷ 108 ∷ 108 ∷ []) refl
ddoc_utf8 (Some s) h = IsUtf8-quoted s h

direction_utf8 : (d : Direction) → IsUtf8 (direction_name d)
direction_utf8 Asc = IsUtf8-are_ascii (codes "asc") refl
direction_utf8 Desc = IsUtf8-are_ascii (codes "desc") refl

ddoc_held : (d : Option (List ℕ)) → IsHeld (ddoc_value d)
ddoc_held None = tt
ddoc_held (Some s) = tt

flat : (d : Option (List ℕ)) → depth (ddoc_value d) ≡ 0
flat None = refl
flat (Some s) = refl

place_depth : (p : RowPlace) → depth (place_value p) ≡ suc (suc (items_depth p.key))
place_depth p = omega (arith, flat p.ddoc)

array_of_place : (p : RowPlace) → CanBeSpelled p → Reads (compact (place_value p)) (place_value p)
array_of_place p h =
    let word = IsUtf8-quoted (direction_name p.direction) (direction_utf8 p.direction) in
    let parts : Items = item (ddoc_value p.ddoc) (item (text p.name) (item (text (direction_name p.direction)) (item (list p.key) (item (text p.id) no_items)))) in
    let utf8 = IsUtf8-append (91 ∷ []) (compact_items false parts) (IsUtf8-are_ascii (91 ∷ []) refl)
    (items_utf8 false parts (ddoc_utf8 p.ddoc h.ddoc, (IsUtf8-quoted p.name h.name, (word, (h.key, (IsUtf8-quoted p.id h.id, tt)))))) in
    let shallow : depth (place_value p) ≤ 127 = omega (arith, place_depth p, h.shallow) in
    reads_compact (place_value p) (ddoc_held p.ddoc, (tt, (tt, (h.held, (tt, tt))))) shallow utf8

-- ---- the place is read back

no_place : place_read (codes "nil") ≡ None
unfolding base64_on_literals
no_place = refl

not_nil : (p : RowPlace) → Spells (spelled p) p → spelled p ≡ codes "nil" → ⊥
not_nil p s e = let some = read_of_spelled (spelled p) p s in let none = ap place_read e ∙ no_place in cc

pub read_back : (p : RowPlace) → CanBeSpelled p → bookmark_read (spelled p) ≡ Some (Some p)
read_back p h =
    let s : Spells (spelled p) p = (refl, array_of_place p h) in
    bookmark_of_place (spelled p) (Some p) (not_nil p s) (read_of_spelled (spelled p) p s)
