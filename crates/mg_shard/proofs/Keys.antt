-- Keys of rows while they are built.
use Rattle.std.proofs.Common.{◌≡◌, ℕ, zero, suc, arith, take, ◌+◌, ◌<◌, List, [], ◌∷◌, ◌++◌, Option, Some, None, option_map, length, get_or, drop, drop-cons, add-one, refl, ap, sym, ◌∙◌}
use Rattle.mg_value.specs.Value.{Value, Items, no_items, item}
use Rattle.mg_rows.specs.Laws.{joined_items}

-- an item that is joined after some and before others may be joined to either first
pub joined-more : (xs : Items) (w : Value) (vs : Items) → joined_items (joined_items xs (item w no_items)) vs ≡ joined_items xs (item w vs)
joined-more no_items w vs = refl
joined-more (item x xs) w vs = ap (item x) (joined-more xs w vs)

pub joined-none : (xs : Items) → joined_items xs no_items ≡ xs
joined-none no_items = refl
joined-none (item x xs) = ap (item x) (joined-none xs)

-- the same for a key that may be missing
pub key_more : (xs : Items) (w : Value) (o : Option Items) → option_map (joined_items xs) (option_map (item w) o) ≡ option_map (joined_items (joined_items xs (item w no_items))) o
key_more xs w None = refl
key_more xs w (Some vs) = ap Some (sym (joined-more xs w vs))

-- the elements from place i on are the element i and those after it
pub drop_item : {A : Type 0} (xs : List A) (i : ℕ) (x : A) → i < length xs → x ≡ get_or xs i x → drop i xs ≡ x ∷ drop (i + 1) xs
drop_item xs i x h e = drop-cons xs i x h ∙ rw (add-one, ← e)

take_length : {A : Type 0} (n : ℕ) (xs : List A) → n ≡ length xs → take n xs ≡ xs
take_length zero [] e = refl
take_length (suc n) [] e = absurd (omega (arith, e))
take_length zero (x ∷ xs) e = absurd (omega (arith, e))
take_length (suc n) (x ∷ xs) e = ap (λ ys. x ∷ ys) (take_length n xs (omega (arith, e)))

drop_length : {A : Type 0} (n : ℕ) (xs : List A) → n ≡ length xs → drop n xs ≡ []
drop_length zero [] e = refl
drop_length (suc n) [] e = refl
drop_length zero (x ∷ xs) e = absurd (omega (arith, e))
drop_length (suc n) (x ∷ xs) e = drop_length n xs (omega (arith, e))

no_more : {A : Type 0} (xs : List A) → xs ++ [] ≡ xs
no_more [] = refl
no_more (x ∷ xs) = ap (λ ys. x ∷ ys) (no_more xs)

-- as many new elements as a vector has are written over its elements
pub written : {A : Type 0} (n : ℕ) (new old : List A) → length new ≡ length old → n ≡ length old → take n (new ++ drop (length new) old) ≡ new
written n new old same all = ap (λ xs. take n (new ++ xs)) (drop_length (length new) old same) ∙ ap (take n) (no_more new) ∙ take_length n new (all ∙ sym same)
