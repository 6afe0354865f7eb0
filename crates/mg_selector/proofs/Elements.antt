-- Lists of values, and the items that they stand for.
use Rattle.std.proofs.Common.{◌≡◌, ℕ, ◌+◌, List, [], ◌∷◌, length, get_or, Bool, true, false, not, ◌&&◌, ◌||◌, nat_lt, Some, Err, Ordering, Less, Equal, Greater, refl, sym, ap, ◌∙◌, arith, ◌≢◌}
use Rattle.std.specs.List.{slice_get}
use Rattle.std.specs.Ordering.{is_eq, ordering_reverse}
use Rattle.mg_value.specs.Value.{Value, list, Items, no_items, item, item_list}
use Rattle.mg_value.specs.View.{view, items_view}
use Rattle.mg_value.specs.declared.value.Json.{Json}
use Rattle.mg_value.proofs.Items.{items_past, past_item, past_all}
use Rattle.mg_collate.specs.Order.{value_order}
use Rattle.mg_collate.proofs.Ties.{value_order_total}
use Rattle.mg_selector.specs.Argument.{modulo_of}
use Rattle.mg_selector.specs.Predicate.{some_item, every_item, every_of_some, is_empty, are_equal, equals_only}
use Rattle.mg_selector.specs.declared.error.SelError.TheVariants.{BadArg}

-- the n-th item, and then those after it
pub some_next : (p : Value → Bool) (vs : Items) (n : ℕ) (v : Value) → slice_get (item_list vs) n ≡ Some v → some_item p (items_past n vs) ≡ (p v || some_item p (items_past (n + 1) vs))
some_next p vs n v is = ap (some_item p) (past_item vs n v is)

pub every_next : (p : Value → Bool) (vs : Items) (n : ℕ) (v : Value) → slice_get (item_list vs) n ≡ Some v → every_item p (items_past n vs) ≡ (p v && every_item p (items_past (n + 1) vs))
every_next p vs n v is = ap (every_item p) (past_item vs n v is)

-- after the last item
pub some_end : (p : Value → Bool) (vs : Items) (n : ℕ) → n ≡ length (item_list vs) → some_item p (items_past n vs) ≡ false
some_end p vs n end = ap (some_item p) (past_all vs n end)

pub every_end : (p : Value → Bool) (vs : Items) (n : ℕ) → n ≡ length (item_list vs) → every_item p (items_past n vs) ≡ true
every_end p vs n end = ap (every_item p) (past_all vs n end)

and_false : (b : Bool) → (b && false) ≡ false
and_false true = refl
and_false false = refl

and_true : (b : Bool) → (b && true) ≡ b
and_true true = refl
and_true false = refl

-- there are items exactly if their count is above 0
pub has_some : (vs : Items) → nat_lt 0 (length (item_list vs)) ≡ not (is_empty vs)
has_some no_items = refl
has_some (item v vs) = grind arith

-- some item does not have p
pub some_has_not : (p : Value → Bool) (vs : Items) → every_item p vs ≡ false → false ≡ every_of_some p vs
some_has_not p vs h = rw h (sym (and_false (not (is_empty vs))))

-- if each item has p, `every_of_some` says whether there are items
pub each_of_some : (p : Value → Bool) (vs : Items) → every_item p vs ≡ true → nat_lt 0 (length (item_list vs)) ≡ every_of_some p vs
each_of_some p vs h = rw h (has_some vs ∙ sym (and_true (not (is_empty vs))))

is_eq_turned : (o : Ordering) → is_eq (ordering_reverse o) ≡ is_eq o
is_eq_turned Less = refl
is_eq_turned Equal = refl
is_eq_turned Greater = refl

-- equality is symmetric
pub are_equal-turned : (v w : Value) → are_equal v w ≡ are_equal w v
are_equal-turned v w = ap is_eq (value_order_total.antisymm v w) ∙ is_eq_turned (value_order w v)

-- one argument: a value equals the only argument exactly if it equals that one
pub equals_only-one : (js : List Json) (j : Json) (v : Value) → length js ≡ 1 → j ≡ get_or js 0 j → are_equal v (view j) ≡ equals_only (items_view js) v
equals_only-one [] j v h is = absurd (omega arith)
equals_only-one (k ∷ []) j v h is = ap (λ x. are_equal v (view x)) is
equals_only-one (k ∷ i ∷ js) j v h is = absurd (omega arith)

-- no argument, or more than one: no value equals the only argument
pub equals_only-other : (js : List Json) (v : Value) → length js ≢ 1 → false ≡ equals_only (items_view js) v
equals_only-other [] v other = refl
equals_only-other (j ∷ []) v other = absurd (other refl)
equals_only-other (j ∷ k ∷ js) v other = refl

-- an argument of `$mod` that does not have two items is refused
pub modulo_of-other : (js : List Json) → length js ≢ 2 → modulo_of (list (items_view js)) ≡ Err BadArg
modulo_of-other [] other = refl
modulo_of-other (j ∷ []) other = refl
modulo_of-other (j ∷ k ∷ []) other = absurd (other refl)
modulo_of-other (j ∷ k ∷ i ∷ js) other = refl
