-- The value that a `Json` stands for.
use Rattle.std.specs.Prelude.{List, [], ◌∷◌, map, String, string_bytes}
use Rattle.std.specs.declared.alloc.Global.{Global}
use Rattle.mg_value.specs.Value.{Value, null, flag, whole, text, list, object, Items, no_items, item, Members, no_members, member}
use Rattle.mg_value.specs.declared.value.Json.{Json, fold-Json}
use Rattle.mg_value.specs.declared.value.Json.TheOpen.{Json-F}

-- the items of a list
abbrev pub items_of : List Value → Items
items_of [] = no_items
items_of (d ∷ ds) = item d (items_of ds)

-- the members of a map, whose entries are in the order of their names
abbrev pub members_of : List (String Global × Value) → Members
members_of [] = no_members
members_of (m ∷ ms) = member (string_bytes m.0) m.1 (members_of ms)

-- one level of the view, from the views of the values inside
abbrev pub view_step : Json-F Value → Value
view_step Json-F.Null = null
view_step (Json-F.Flag b) = flag b
view_step (Json-F.Whole z) = whole z
view_step (Json-F.Text s) = text (string_bytes s)
view_step (Json-F.List v) = list (items_of v.items)
view_step (Json-F.Object m) = object (members_of m.entries)

-- the value that a `Json` stands for
abbrev pub view : Json → Value
view = fold-Json Value view_step

-- the items that a `Vec` stands for
abbrev pub items_view : List Json → Items
items_view js = items_of (map view js)

-- the members that a `BTreeMap` stands for
abbrev pub members_view : List (String Global × Json) → Members
members_view ms = members_of (map (λ m. (m.0, view m.1)) ms)
