-- One turn of each loop that compares arrays or objects.
use Rattle.std.proofs.Common.{◌≡◌, ◌≢◌, ◌<◌, ◌≤◌, ℕ, zero, suc, ◌+◌, List, ◌∷◌, drop, get_or, length, Some, Ordering, Less, Equal, Greater, string_bytes, nat_cmp, refl, sym, ap, ap₂, ◌∙◌, arith}
use Rattle.std.proofs.lemmas.List.{drop_more}
use Rattle.std.proofs.Math.Seq.{drop-length}
use Rattle.std.specs.Cmp.{nat_cmp_is}
use Rattle.std.specs.Cmp.Lexicographic.{slice_cmp}
use Rattle.std.specs.List.{slice_get}
use Rattle.std.specs.Ordering.{ordering_then}
use Rattle.mg_value.specs.Value.{Value, Items, no_items, item, Members, member, item_list}
use Rattle.mg_value.specs.View.{view, items_view, members_view}
use Rattle.mg_value.specs.declared.value.Json.{Json}
use Rattle.mg_value.proofs.Items.{items_past, past_item, past_all}
use Rattle.mg_value.proofs.Views.{Entry}
use Rattle.mg_collate.specs.Order.{value_order, items_order}
use Rattle.mg_collate.specs.Compared.{members_order}
use Rattle.mg_collate.proofs.Flat.{then_assoc, items_order-item, items_order-below, items_order-above, members_order-member}

pub decided : (o p : Ordering) → o ≢ Equal → o ≡ ordering_then o p
decided Less p h = refl
decided Equal p h = absurd (h refl)
decided Greater p h = refl

-- the n-th items decide, and then the items after them
pub items_step : (vs : Items) (ys : List Json) (n : ℕ) (v : Value) (y : Json) → slice_get (item_list vs) n ≡ Some v → n < length ys → y ≡ get_or ys n y
    → items_order (items_past n vs) (items_view (drop n ys)) ≡ ordering_then (value_order v (view y)) (items_order (items_past (n + 1) vs) (items_view (drop (n + 1) ys)))
items_step vs ys n v y there less is =
    ap₂ (λ xs js. items_order xs (items_view js)) (past_item vs n v there) (drop_more ys n y less ∙ ap (λ z. z ∷ drop (n + 1) ys) (sym is))
    ∙ items_order-item v (view y) (items_past (n + 1) vs) (items_view (drop (n + 1) ys))

-- an array that ends first is below
pub items_less : (vs : Items) (ys : List Json) (n : ℕ) (y : Json) → n ≡ length (item_list vs) → n < length ys → items_order (items_past n vs) (items_view (drop n ys)) ≡ Less
items_less vs ys n y all less =
    ap₂ (λ xs js. items_order xs (items_view js)) (past_all vs n all) (drop_more ys n y less) ∙ items_order-below (view (get_or ys n y)) (items_view (drop (n + 1) ys))

items_left : (vs : Items) (n m j k : ℕ) → n ≤ length (item_list vs) → j ≡ m + length (item_list vs) → k ≡ m + n → nat_cmp j k ≡ items_order (items_past n vs) no_items
items_left no_items zero m j k h a b = sym (nat_cmp_is j k Equal (omega arith))
items_left no_items (suc n) m j k h a b = absurd (omega arith)
items_left (item v vs) zero m j k h a b = sym (nat_cmp_is j k Greater (omega arith)) ∙ sym (items_order-above v vs)
items_left (item v vs) (suc n) m j k h a b = items_left vs n (m + 1) j k (omega arith) (omega arith) (omega arith)

-- where the second array ends, the lengths decide
pub items_end : (vs : Items) (ys : List Json) (n : ℕ) → n ≤ length (item_list vs) → n ≡ length ys → nat_cmp (length (item_list vs)) (length ys) ≡ items_order (items_past n vs) (items_view (drop n ys))
items_end vs ys n within end =
    items_left vs n 0 (length (item_list vs)) (length ys) within (omega arith) (omega arith)
    ∙ ap (λ js. items_order (items_past n vs) (items_view js)) (sym (ap (λ k. drop k ys) end ∙ drop-length ys))

-- the next members decide, and then the members after them
pub members_step : (ms rest : Members) (es left : List Entry) (k : List ℕ) (v : Value) (e : Entry) → ms ≡ member k v rest → es ≡ e ∷ left
    → members_order ms (members_view es) ≡ ordering_then (ordering_then (slice_cmp nat_cmp k (string_bytes e.0)) (value_order v (view e.1))) (members_order rest (members_view left))
members_step ms rest es left k v e a b =
    ap₂ (λ x y. members_order x (members_view y)) a b ∙ members_order-member k (string_bytes e.0) v (view e.1) rest (members_view left)
    ∙ sym (then_assoc (slice_cmp nat_cmp k (string_bytes e.0)) (value_order v (view e.1)) _)
