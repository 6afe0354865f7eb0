-- The order of a row bound against a row is that of their bytes.
use Rattle.std.proofs.Common.{◌≡◌, ℕ, List, [], ◌∷◌, ◌++◌, length, Ordering, Less, Greater, refl, sym, ap, ap₂, ◌∙◌, arith}
use Rattle.std.specs.Cmp.{nat_cmp_is}
use Rattle.std.specs.Ordering.{ordering_then}
use Rattle.mg_collate.specs.Order.{value_order, items_order}
use Rattle.mg_collate.specs.Row.{RowValue}
use Rattle.mg_collate.proofs.Flat.{items_order-item, items_order-above}
use Rattle.mg_value.specs.Value.{Items, no_items, item}
use Rattle.mg_rows.specs.RowBound.{first_columns, edge_order, edge_bytes, bound_order}
use Rattle.mg_rows.specs.Bytes.{bytes_order, text_before, value_before, items_before, columns_before, row_bytes}
use Rattle.mg_rows.specs.Laws.{joined_items}
use Rattle.mg_value.specs.Stored.{AreStored}
use Rattle.mg_rows.specs.Stored.{IsStoredRow}
use Rattle.mg_rows.specs.declared.edge.Edge.{Edge}
use Rattle.mg_rows.specs.declared.edge.Edge.TheVariants.{Before, After}
use Rattle.mg_rows.proofs.Joined.{columns_append}
use Rattle.mg_rows.specs.StandsFor.{BoundOf, BeginsLow, value_low, below_value}
use Rattle.mg_rows.specs.ByteOrder.{value_cmp, then_two, above_zero}

-- ---- what follows a value

above_low : (xs : List ℕ) → BeginsLow xs → bytes_order (255 ∷ []) xs ≡ Greater
above_low [] h = refl
above_low (b ∷ xs) h = ap (λ o. ordering_then o (bytes_order [] xs)) (sym (nat_cmp_is 255 b Greater h))

-- 255 is above the first byte of each value, and above the end of a key
above_items : (ws : Items) (id : List ℕ) → bytes_order (255 ∷ []) (items_before ws id) ≡ Greater
above_items no_items id = refl
above_items (item w ws) id = above_low (value_before w (items_before ws id)) (value_low w (items_before ws id))

below_items : (ws : Items) (id : List ℕ) → bytes_order [] (items_before ws id) ≡ Less
below_items no_items id = refl
below_items (item w ws) id = below_value w (items_before ws id)

edge_cmp : (edge : Edge) (ws : Items) (id : List ℕ) → bytes_order (edge_bytes edge) (items_before ws id) ≡ edge_order edge
edge_cmp Before ws id = below_items ws id
edge_cmp After ws id = above_items ws id

-- ---- bounds

-- the order of a bound against a row, value by value
front_cmp : (edge : Edge) (vs ws : Items) (id : List ℕ) → AreStored vs → AreStored ws
    → bytes_order (columns_before vs (edge_bytes edge)) (items_before ws id) ≡ ordering_then (items_order vs (first_columns vs ws)) (edge_order edge)
front_cmp edge no_items ws id f g = edge_cmp edge ws id
front_cmp edge (item v vs) no_items id f g = above_zero v (columns_before vs (edge_bytes edge)) id ∙ ap (λ o. ordering_then o (edge_order edge)) (sym (items_order-above v vs))
front_cmp edge (item v vs) (item w ws) id f g =
    value_cmp v w (columns_before vs (edge_bytes edge)) (items_before ws id) f.0 g.0
    ∙ then_two (value_order v w) (items_order vs (first_columns vs ws)) (edge_order edge) _ (front_cmp edge vs ws id f.1 g.1)
    ∙ ap (λ o. ordering_then o (edge_order edge)) (sym (items_order-item v w vs (first_columns vs ws)))

pub bound_rows : (o : Ordering) (x y : List ℕ) (kept : BoundOf x) (place : Edge × Items) (a : RowValue) → kept.0 ≡ place → o ≡ bytes_order x y → y ≡ row_bytes a → IsStoredRow a → o ≡ bound_order place.0 place.1 a
bound_rows o x y kept place a is h e f =
    h ∙ ap₂ bytes_order kept.1.1 e ∙ front_cmp kept.0.0 kept.0.1 a.0 a.1 kept.1.0 f.0 ∙ ap (λ (p : Edge × Items). bound_order p.0 p.1 a) is

-- the empty list of bytes is below a text
pub below_text : (none s rest : List ℕ) → length none ≡ 0 → bytes_order none (text_before s rest) ≡ Less
below_text [] [] rest h = refl
below_text [] (b ∷ s) rest h = refl
below_text (x ∷ none) s rest h = absurd (omega (arith, h))

-- ---- laws

columns_joined : (vs ws : Items) (rest : List ℕ) → items_before (joined_items vs ws) rest ≡ columns_before vs (items_before ws rest)
columns_joined no_items ws rest = refl
columns_joined (item v vs) ws rest = ap (value_before v) (columns_joined vs ws rest)

-- the bytes of a row begin with those of the values of its first columns
pub row_front : (vs ws : Items) (id : List ℕ) → row_bytes (joined_items vs ws, id) ≡ columns_before vs [] ++ row_bytes (ws, id)
row_front vs ws id = columns_joined vs ws id ∙ columns_append vs [] (items_before ws id)
