-- The key of a row: the values of the columns in its document.
use Rattle.std.proofs.Common.{◌≡◌, ℕ, List, [], ◌∷◌, Option, Some, None, option_map, option_and_then, refl, sym, ap, ◌∙◌}
use Rattle.mg_collate.specs.Row.{RowValue}
use Rattle.mg_index.specs.Definition.{Steps}
use Rattle.mg_index.specs.Key.{key_of}
use Rattle.mg_path.specs.Part.{part_of}
use Rattle.mg_shard.specs.Histories.{ServedDocument}
use Rattle.mg_shard.specs.Rows.{row_key, row_of}
use Rattle.mg_value.specs.Value.{Value, item, item_list}
use Rattle.mg_value.specs.View.{items_of}

key_step : (part : Option Value) (vs : Option (List Value))
    → option_map items_of (option_and_then (λ w. option_map (λ ws. w ∷ ws) vs) part) ≡ option_and_then (λ w. option_map (item w) (option_map items_of vs)) part
key_step None vs = refl
key_step (Some w) None = refl
key_step (Some w) (Some vs) = refl

-- the key with one more column in front
pub row_key-more : (column : Steps) (columns : List Steps) (v : Value) → row_key (column ∷ columns) v ≡ option_and_then (λ part. option_map (item part) (row_key columns v)) (part_of column v)
row_key-more column columns v = key_step (part_of column v) (key_of columns v)

items_listed : (vs : List Value) → item_list (items_of vs) ≡ vs
items_listed [] = refl
items_listed (v ∷ vs) = ap (λ ws. v ∷ ws) (items_listed vs)

keyed_at : (id : List ℕ) (vs : Option (List Value)) (r : RowValue) → option_map (λ k. (k, id)) (option_map items_of vs) ≡ Some r → vs ≡ Some (item_list r.0)
keyed_at id None r is = absurd cc
keyed_at id (Some vs) r is =
    let row : ◌≡◌ {A = RowValue} (items_of vs, id) r = cc in
    ap Some (sym (items_listed vs) ∙ ap (λ (x : RowValue). item_list x.0) row)

-- the key of a document's row is the values that the document has at the columns
pub row_keyed : (columns : List Steps) (d : ServedDocument) (r : RowValue) → row_of columns d ≡ Some r → key_of columns d.1 ≡ Some (item_list r.0)
row_keyed columns d r e = keyed_at d.0 (key_of columns d.1) r e
