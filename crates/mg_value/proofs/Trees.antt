-- Parse trees all of whose numbers are whole, one item or member at a time.
use Rattle.std.proofs.Common.{◌≡◌, ℕ, ℤ, List, [], ◌∷◌, ◌++◌, Option, Some, None, option_map, option_and_then, Global, refl, ap, ◌∙◌}
use Rattle.json.specs.Value.{value_view, items_view as tree_items}
use Rattle.json.specs.declared.value.Value.{Value as Tree}
use Rattle.serde_json.specs.Data as parsed
use Rattle.serde_json.specs.Data.{Num, Data}
use Rattle.serde_json.specs.Find.{as_i64}
use Rattle.serde_json.specs.Read.{number_of, of_json, of_items}
use Rattle.mg_value.specs.Value.{Value, Items, no_items, item}
use Rattle.mg_value.specs.Text.{whole_of, whole_items}
use Rattle.mg_value.specs.Borrowed.{whole_number_of}
use Rattle.mg_value.specs.View.{view, items_view}
use Rattle.mg_value.specs.declared.value.Json.{Json}
use Rattle.mg_value.proofs.Whole.{after, items_view-push}

number_parts_at : (o : Option Num) (z : ℤ) → option_and_then as_i64 o ≡ Some z → (n : Num) × (o ≡ Some n) × (as_i64 n ≡ Some z)
number_parts_at None z e = absurd cc
number_parts_at (Some n) z e = (n, refl, e)

-- a numeral whose whole number is z is read as a number, which is z as an i64
pub number_parts : (s : List ℕ) (z : ℤ) → whole_number_of s ≡ Some z → (n : Num) × (number_of s ≡ Some n) × (as_i64 n ≡ Some z)
number_parts s z e = number_parts_at (number_of s) z e

-- the data, with d at the end
abbrev data_after : parsed.Items → Data → parsed.Items
data_after parsed.no_items d = parsed.item d parsed.no_items
data_after (parsed.item e ds) d = parsed.item e (data_after ds d)

split_data : (o : Option Data) (r : Option parsed.Items) (ds : parsed.Items) → option_and_then (λ d. option_map (parsed.item d) r) o ≡ Some ds → (d : Data) × (rest : parsed.Items) × (o ≡ Some d) × (r ≡ Some rest) × (parsed.item d rest ≡ ds)
split_data None r ds e = absurd cc
split_data (Some d) None ds e = absurd cc
split_data (Some d) (Some rest) ds e = (d, rest, refl, refl, cc)

split_value : (o : Option Value) (r : Option Items) (vs : Items) → option_and_then (λ v. option_map (item v) r) o ≡ Some vs → (v : Value) × (rest : Items) × (o ≡ Some v) × (r ≡ Some rest) × (item v rest ≡ vs)
split_value None r vs e = absurd cc
split_value (Some v) None vs e = absurd cc
split_value (Some v) (Some rest) vs e = (v, rest, refl, refl, cc)

of_items-push : (ts : List (Tree Global)) (t : Tree Global) (ds : parsed.Items) (d : Data) → of_items (tree_items ts) ≡ Some ds → of_json (value_view t) ≡ Some d → of_items (tree_items (ts ++ t ∷ [])) ≡ Some (data_after ds d)
of_items-push [] t ds d all one = let none : parsed.no_items ≡ ds = cc in rw (one, ← none)
of_items-push (x ∷ ts) t ds d all one =
    let s = split_data (of_json (value_view x)) (of_items (tree_items ts)) ds all in
    rw (s.2, of_items-push ts t s.1 d s.3 one) (ap (λ e. Some (data_after e d)) s.4)

whole_items-after : (ds : parsed.Items) (d : Data) (vs : Items) (v : Value) → whole_items ds ≡ Some vs → whole_of d ≡ Some v → whole_items (data_after ds d) ≡ Some (after vs v)
whole_items-after parsed.no_items d vs v all one = let none : no_items ≡ vs = cc in rw (one, ← none)
whole_items-after (parsed.item e ds) d vs v all one =
    let s = split_value (whole_of e) (whole_items ds) vs all in
    rw (s.2, whole_items-after ds d s.1 v s.3 one) (ap (λ ws. Some (after ws v)) s.4)

-- the items so far with one more whole item: their data, and the values of the data
pub push_whole : (ts : List (Tree Global)) (t : Tree Global) (vs : List Json) (v : Json) (ds : parsed.Items) (d : Data)
    → of_items (tree_items ts) ≡ Some ds → whole_items ds ≡ Some (items_view vs) → of_json (value_view t) ≡ Some d → whole_of d ≡ Some (view v)
    → (es : parsed.Items) × (of_items (tree_items (ts ++ t ∷ [])) ≡ Some es) × (whole_items es ≡ Some (items_view (vs ++ v ∷ [])))
push_whole ts t vs v ds d read all one whole =
    (data_after ds d, of_items-push ts t ds d read one, whole_items-after ds d (items_view vs) (view v) all whole ∙ ap Some (rw items_view-push))
