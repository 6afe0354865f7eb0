-- For binary search: where a key belongs in a list.
use Rattle.std.specs.Prelude.{◌≡◌, ℕ, ◌+◌, ◌<◌, ◌≤◌, length, take, drop, List, ◌∷◌, ◌++◌}
use Rattle.std.specs.List.{AllByRecursion}
use Rattle.std.specs.declared.cmp.Ordering.{Ordering}
use Rattle.std.specs.declared.cmp.Ordering.TheVariants.{Less, Equal, Greater}

-- the key is above all the elements
abbrev pub AllBelow : {T : Type 0} → (T → Ordering) → List T → Type 0
AllBelow against xs = AllByRecursion (λ x. against x ≡ Greater) xs

-- the key is below all the elements
abbrev pub AllAbove : {T : Type 0} → (T → Ordering) → List T → Type 0
AllAbove against xs = AllByRecursion (λ x. against x ≡ Less) xs

-- the key ties with the element at i: it is above those before i and below those after it
pub record IsTie {T : Type 0} (against : T → Ordering) (xs : List T) (i : ℕ) : Type 0 where
  pub within : i < length xs
  pub element : T
  pub is : xs ≡ take i xs ++ element ∷ drop (i + 1) xs
  pub ties : against element ≡ Equal
  pub before : AllBelow against (take i xs)
  pub after : AllAbove against (drop (i + 1) xs)

-- the key ties with no element, and belongs before the element at i, or at the end if i is the length
pub record BelongsAt {T : Type 0} (against : T → Ordering) (xs : List T) (i : ℕ) : Type 0 where
  pub within : i ≤ length xs
  pub before : AllBelow against (take i xs)
  pub after : AllAbove against (drop i xs)

-- the key ties with no element, and belongs between the element before i and the one at i
pub record BelongsWithin {T : Type 0} (against : T → Ordering) (xs : List T) (i : ℕ) : Type 0 where
  pub belongs : BelongsAt against xs i
  pub some : 0 < i
  pub less : i < length xs

-- x is one of xs
pub record IsAmong {T : Type 0} (xs : List T) (x : T) : Type 0 where
  pub front : List T
  pub rest : List T
  pub is : xs ≡ front ++ x ∷ rest
