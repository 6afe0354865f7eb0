-- The items of an array from a place on.
use Rattle.std.proofs.Common.{◌≡◌, ℕ, suc, zero, ◌+◌, ◌<◌, List, [], ◌∷◌, length, refl, ap, ◌∙◌, sym, arith}
use Rattle.mg_value.specs.Value.{Value, Items, no_items, item, item_list}
use Rattle.mg_value.proofs.Items.{items_past}
use Rattle.mg_packed.specs.Read.{nth_item}

item_next : (vs : Items) (i : ℕ) → i < length (item_list vs) → items_past i vs ≡ item (nth_item vs i) (items_past (suc i) vs)
item_next no_items i less = absurd (omega arith)
item_next (item v vs) zero less = refl
item_next (item v vs) (suc i) less = item_next vs i (omega arith)

pub next_item : (vs : Items) (i : ℕ) (v : Value) → i < length (item_list vs) → v ≡ nth_item vs i → items_past i vs ≡ item v (items_past (i + 1) vs)
next_item vs i v less is =
    let next : suc i ≡ i + 1 = omega arith in
    item_next vs i less ∙ ap (λ n. item (nth_item vs i) (items_past n vs)) next ∙ ap (λ w. item w (items_past (i + 1) vs)) (sym is)

pub nothing : {X : Type 0} (xs : List X) → length xs ≡ 0 → xs ≡ []
nothing [] h = refl
nothing (x ∷ xs) h = absurd (omega arith)
