-- Prefixes of lists of commits.
use Rattle.std.proofs.Common.{◌≡◌, ◌≤◌, Bool, true, false, List, [], ◌∷◌, ◌++◌, ◌⊎◌, inl, inr, length, nat_lt, refl, ap, sym, ◌∙◌, arith}
use Rattle.std.proofs.lemmas.List.{append-nil, append_assoc}
use Rattle.std.proofs.lemmas.Bool.Decides.{nat_tests}
use Rattle.mg_machine.specs.Machine.{Commit, longer_of}
use Rattle.mg_machine.specs.Laws.{IsPrefix}

pub two : (b : Bool) → (b ≡ true) ⊎ (b ≡ false)
two true = inl refl
two false = inr refl

pub itself : (xs : List Commit) → IsPrefix xs xs
itself xs = ([], sym (append-nil xs))

pub in_turn : (xs ys zs : List Commit) → IsPrefix xs ys → IsPrefix ys zs → IsPrefix xs zs
in_turn xs ys zs p q = (p.0 ++ q.0, q.1 ∙ ap (λ l. l ++ q.0) p.1 ∙ append_assoc xs p.0 q.0)

-- of two prefixes of one list, the shorter is a prefix of the longer
shorter : {A : Type 0} (xs ys zs p q : List A) → zs ≡ xs ++ p → zs ≡ ys ++ q → length xs ≤ length ys → (rest : List A) × (ys ≡ xs ++ rest)
shorter [] ys zs p q h k le = (ys, refl)
shorter (x ∷ xs) [] zs p q h k le = absurd (omega (arith, le))
shorter (x ∷ xs) (y ∷ ys) [] p q h k le = absurd cc
shorter (x ∷ xs) (y ∷ ys) (z ∷ zs) p q u v le =
    let heads : y ≡ x = cc in
    let h : zs ≡ xs ++ p = cc in
    let k : zs ≡ ys ++ q = cc in
    let rest = shorter xs ys zs p q h k (omega (arith, le)) in
    (rest.0, cc (heads, rest.1))

-- ---- the longer of two

pub longer_left : (xs ys zs : List Commit) → IsPrefix xs zs → IsPrefix ys zs → IsPrefix xs (longer_of xs ys)
longer_left xs ys zs p q = elim (two (nat_lt (length xs) (length ys))) [
  | inl t ↦ let le : length xs ≤ length ys = grind (arith, nat_tests, t) in rw t (shorter xs ys zs p.0 q.0 p.1 q.1 le)
  | inr f ↦ rw f (itself xs)
]

pub longer_right : (xs ys zs : List Commit) → IsPrefix xs zs → IsPrefix ys zs → IsPrefix ys (longer_of xs ys)
longer_right xs ys zs p q = elim (two (nat_lt (length xs) (length ys))) [
  | inl t ↦ rw t (itself ys)
  | inr f ↦ let le : length ys ≤ length xs = grind (arith, nat_tests, f) in rw f (shorter ys xs zs q.0 p.0 q.1 p.1 le)
]

pub longer_within : (xs ys zs : List Commit) → IsPrefix xs zs → IsPrefix ys zs → IsPrefix (longer_of xs ys) zs
longer_within xs ys zs p q = elim (two (nat_lt (length xs) (length ys))) [ inl t ↦ rw t q | inr f ↦ rw f p ]
