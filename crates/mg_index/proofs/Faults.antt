-- The fault of columns, found without reading them into memory.
use Rattle.std.proofs.Common.{◌≡◌, ℕ, List, [], ◌∷◌, Bool, true, false, ◌&&◌, cond, Option, Some, None, is_some, option_map, option_and_then, Result, Ok, Err, unwrap_or, refl, ap, ◌∙◌}
use Rattle.std.specs.List.{list_all}
use Rattle.std.specs.Option.{option_map_or}
use Rattle.std.specs.Result.{result_err}
use Rattle.mg_value.specs.Value.{Value}
use Rattle.std.specs.Prelude.{ok_or}
use Rattle.mg_value.specs.Results.{◌>>=◌}
use Rattle.mg_path.specs.Part.{steps_of}
use Rattle.mg_collate.specs.declared.direction.Direction.{Direction}
use Rattle.mg_index.specs.Definition.{Steps}
use Rattle.mg_index.specs.Fault.{is_column, is_directed, fault_of_directions}
use Rattle.mg_index.specs.Reading.{each_of, field_path, field_direction, is_same, one_direction, Columns, columns_of, ReadsAs}
use Rattle.mg_index.specs.declared.error.IndexError.{IndexError}
use Rattle.mg_index.specs.declared.error.IndexError.TheVariants.{Shape, Mixed, NoMemory}

-- a pair of options gives something exactly if both are `Some`
both : {A B C : Type 0} (f : A → B → C) (o : Option A) (q : Option B) → is_some (option_and_then (λ y. option_map (f y) q) o) ≡ (is_some o && is_some q)
both f None q = refl
both f (Some y) None = refl
both f (Some y) (Some z) = refl

-- f gives something for all items exactly if it does for each
all_of : {A B : Type 0} (f : A → Option B) (xs : List A) → is_some (each_of f xs) ≡ list_all (λ x. is_some (f x)) xs
all_of f [] = refl
all_of f (x ∷ xs) = both (λ y ys. y ∷ ys) (f x) (each_of f xs) ∙ ap (λ b. is_some (f x) && b) (all_of f xs)

not_both : (b : Bool) → false ≡ (b && false)
not_both true = refl
not_both false = refl

one_path : (t : Option (List ℕ)) (ts : Option (List (List ℕ)))
    → is_some (option_and_then (each_of steps_of) (option_and_then (λ y. option_map (λ ys. y ∷ ys) ts) t)) ≡ (is_some (option_and_then steps_of t) && is_some (option_and_then (each_of steps_of) ts))
one_path None ts = refl
one_path (Some t) None = not_both (is_some (steps_of t))
one_path (Some t) (Some ts) = both (λ y ys. y ∷ ys) (steps_of t) (each_of steps_of ts)

paths_of : (vs : List Value) → is_some (option_and_then (each_of steps_of) (each_of field_path vs)) ≡ list_all (λ v. is_some (option_and_then steps_of (field_path v))) vs
paths_of [] = refl
paths_of (v ∷ vs) = one_path (field_path v) (each_of field_path vs) ∙ ap (λ b. is_some (option_and_then steps_of (field_path v)) && b) (paths_of vs)

swapped : (a b c d : Bool) → ((a && b) && (c && d)) ≡ ((a && c) && (b && d))
swapped true true c d = refl
swapped true false true d = refl
swapped true false false d = refl
swapped false b c d = refl

all_and : (p q : Value → Bool) (vs : List Value) → (list_all p vs && list_all q vs) ≡ list_all (λ v. p v && q v) vs
all_and p q [] = refl
all_and p q (v ∷ vs) = swapped (p v) (list_all p vs) (q v) (list_all q vs) ∙ ap (λ b. (p v && q v) && b) (all_and p q vs)

-- the fields give paths and directions exactly if each is a column
columns_all : (vs : List Value) → (is_some (option_and_then (each_of steps_of) (each_of field_path vs)) && is_some (each_of field_direction vs)) ≡ list_all is_column vs
columns_all vs =
    ap (λ b. b && is_some (each_of field_direction vs)) (paths_of vs)
    ∙ ap (λ b. list_all (λ v. is_some (option_and_then steps_of (field_path v))) vs && b) (all_of field_direction vs)
    ∙ all_and (λ v. is_some (option_and_then steps_of (field_path v))) (λ v. is_some (field_direction v)) vs

-- the columns of these texts, steps and direction
abbrev columns_with : List (List ℕ) → List Steps → Direction → Result Columns IndexError
columns_with texts steps direction = Ok (record { texts = texts; steps = steps; direction = direction })

direction_fault : (texts : List (List ℕ)) (steps : List Steps) (r : Result Direction IndexError) → result_err (r >>= (λ direction. columns_with texts steps direction)) ≡ result_err r
direction_fault texts steps (Ok d) = refl
direction_fault texts steps (Err e) = refl

steps_fault : (texts : List (List ℕ)) (s : Option (List Steps)) (d : Option (List Direction))
    → result_err (ok_or s Shape >>= (λ steps. ok_or d Shape >>= (λ directions. one_direction directions >>= (λ direction. columns_with texts steps direction))))
    ≡ cond (is_some s && is_some d) (result_err (ok_or d Shape >>= one_direction)) (Some Shape)
steps_fault texts None d = refl
steps_fault texts (Some steps) None = refl
steps_fault texts (Some steps) (Some ds) = direction_fault texts steps (one_direction ds)

texts_fault : (a : Option (List (List ℕ))) (d : Option (List Direction))
    → result_err (ok_or a Shape >>= (λ texts. ok_or (each_of steps_of texts) Shape >>= (λ steps. ok_or d Shape >>= (λ directions. one_direction directions >>= (λ direction. columns_with texts steps direction)))))
    ≡ cond (is_some (option_and_then (each_of steps_of) a) && is_some d) (result_err (ok_or d Shape >>= one_direction)) (Some Shape)
texts_fault None d = refl
texts_fault (Some texts) d = steps_fault texts (each_of steps_of texts) d

-- the fault of columns: `Shape` if some field gives no path or no direction; otherwise the fault of the directions
pub columns_fault : (vs : List Value) → result_err (columns_of vs) ≡ cond (list_all is_column vs) (fault_of_directions vs) (Some Shape)
columns_fault vs = texts_fault (each_of field_path vs) (each_of field_direction vs) ∙ ap (λ b. cond b (result_err (ok_or (each_of field_direction vs) Shape >>= one_direction)) (Some Shape)) (columns_all vs)

-- if each field is a column, each gives a direction
pub directions_there : (vs : List Value) → list_all is_column vs ≡ true → is_some (each_of field_direction vs) ≡ true
directions_there vs all = second (is_some (option_and_then (each_of steps_of) (each_of field_path vs))) (is_some (each_of field_direction vs)) (columns_all vs ∙ all)
  where
    second : (a b : Bool) → (a && b) ≡ true → b ≡ true
    second true b e = e
    second false b e = absurd cc

one_same : (d : Direction) (o : Option Direction) (os : Option (List Direction))
    → option_map_or (list_all (is_same d)) (option_and_then (λ y. option_map (λ ys. y ∷ ys) os) o) false ≡ (option_map_or (is_same d) o false && option_map_or (list_all (is_same d)) os false)
one_same d None os = refl
one_same d (Some y) None = not_both (is_same d y)
one_same d (Some y) (Some ys) = refl

-- all directions are this one exactly if each field gives it
all_same : (d : Direction) (vs : List Value) → option_map_or (list_all (is_same d)) (each_of field_direction vs) false ≡ list_all (is_directed d) vs
all_same d [] = refl
all_same d (v ∷ vs) = one_same d (field_direction v) (each_of field_direction vs) ∙ ap (λ b. is_directed d v && b) (all_same d vs)

mixed_fault : (d : Direction) (b : Bool) → result_err {T = Direction} {E = IndexError} (cond b (Ok d) (Err Mixed)) ≡ cond b None (Some Mixed)
mixed_fault d true = refl
mixed_fault d false = refl

first_fault : (o : Option Direction) (os : Option (List Direction)) → is_some (option_and_then (λ y. option_map (λ ys. y ∷ ys) os) o) ≡ true
    → result_err (ok_or (option_and_then (λ y. option_map (λ ys. y ∷ ys) os) o) Shape >>= one_direction) ≡ option_map_or (λ d. cond (option_map_or (list_all (is_same d)) os false) None (Some Mixed)) o (Some Shape)
first_fault None os there = refl
first_fault (Some y) None there = absurd cc
first_fault (Some y) (Some ys) there = mixed_fault y (list_all (is_same y) ys)

-- if each field gives a direction, the fault is `Mixed` exactly if one of the others differs from the first
pub directions_fault : (v : Value) (vs : List Value) (d : Direction) → is_some (each_of field_direction (v ∷ vs)) ≡ true → field_direction v ≡ Some d
    → fault_of_directions (v ∷ vs) ≡ cond (list_all (is_directed d) vs) None (Some Mixed)
directions_fault v vs d there is =
    first_fault (field_direction v) (each_of field_direction vs) there
    ∙ ap (λ o. option_map_or (λ d. cond (option_map_or (list_all (is_same d)) (each_of field_direction vs) false) None (Some Mixed)) o (Some Shape)) is
    ∙ ap (λ b. cond b None (Some Mixed)) (all_same d vs)

-- a reading may return the fault of its value, or `NoMemory` if the value has none
pub fault_or_no_memory : {A B : Type 0} (item_view : A → B) (r : Result B IndexError) → ReadsAs item_view (Err (unwrap_or (result_err r) NoMemory)) r
fault_or_no_memory item_view (Ok x) = tt
fault_or_no_memory item_view (Err Shape) = refl
fault_or_no_memory item_view (Err Mixed) = refl
fault_or_no_memory item_view (Err NoMemory) = tt
