-- Lists that are read one element after the other.
use Rattle.std.proofs.Common.{◌≡◌, List, [], ◌∷◌, ◌++◌, Option, Some, None, option_map, Ok, refl, sym, ap, append_assoc}
use Rattle.std.specs.Prelude.{ok_or}
use Rattle.mg_index.specs.Reading.{each_of}
use Rattle.mg_query.specs.View.{Fails}
use Rattle.mg_query.specs.declared.error.QueryError.{QueryError}
use Rattle.mg_query.specs.declared.error.QueryError.TheVariants.{Shape, InvalidOperator, BadArg, BadBookmark, MixedSort, NoMemory}

-- a result without a fault is the value that was found
pub was_found : {A : Type 0} (o : Option A) (x : A) → ok_or o Shape ≡ Ok x → o ≡ Some x
was_found None x e = absurd cc
was_found (Some y) x e = ap Some (cc)

-- if reading one part fails as it should, so does the whole that needs this part; if an allocation fails, any result is right
pub failed : {A B : Type 0} (e : QueryError) (o : Option A) (r : Option B) → Fails e (ok_or o Shape) → (o ≡ None → r ≡ None) → Fails e (ok_or r Shape)
failed NoMemory o r h k = tt
failed Shape None r h k = ap (λ o. ok_or o Shape) (k refl)
failed Shape (Some x) r h k = absurd cc
failed InvalidOperator None r h k = absurd cc
failed InvalidOperator (Some x) r h k = absurd cc
failed BadArg None r h k = absurd cc
failed BadArg (Some x) r h k = absurd cc
failed BadBookmark None r h k = absurd cc
failed BadBookmark (Some x) r h k = absurd cc
failed MixedSort None r h k = absurd cc
failed MixedSort (Some x) r h k = absurd cc

before : {B : Type 0} (done : List B) (y : B) (rest : Option (List B)) → option_map (λ ys. done ++ ys) (option_map (λ ys. y ∷ ys) rest) ≡ option_map (λ ys. (done ++ y ∷ []) ++ ys) rest
before done y None = refl
before done y (Some ys) = ap Some (sym (append_assoc done (y ∷ []) ys))

-- an element that was read moves from those that are left to those that are done
pub one_more : {A B : Type 0} (f : A → Option B) (done : List B) (x : A) (xs : List A) (y : B) → ok_or (f x) Shape ≡ Ok y
    → option_map (λ ys. done ++ ys) (each_of f (x ∷ xs)) ≡ option_map (λ ys. (done ++ y ∷ []) ++ ys) (each_of f xs)
one_more f done x xs y e = let e : f x ≡ Some y = was_found (f x) y e in rw e (before done y (each_of f xs))

-- if the first element cannot be read, neither can the list
pub none_more : {A B : Type 0} (f : A → Option B) (done : List B) (x : A) (xs : List A) → f x ≡ None → option_map (λ ys. done ++ ys) (each_of f (x ∷ xs)) ≡ None
none_more f done x xs e = rw e
