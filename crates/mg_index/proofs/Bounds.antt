-- A search finds an element exactly if some element passes the test.
use Rattle.std.proofs.Common.{◌≡◌, Bool, true, false, cond, ◌||◌, List, [], ◌∷◌, Option, Some, is_some, refl}
use Rattle.std.specs.List.{find, list_any}

find_at : {X : Type 0} (x : X) (more : Bool) (o : Option X) → more ≡ is_some o → (b : Bool) → (b || more) ≡ is_some (cond b (Some x) o)
find_at x more o e true = refl
find_at x more o e false = e

pub some_found : {X : Type 0} (p : X → Bool) (xs : List X) → list_any p xs ≡ is_some (find p xs)
some_found p [] = refl
some_found p (x ∷ xs) = find_at x (list_any p xs) (find p xs) (some_found p xs) (p x)
