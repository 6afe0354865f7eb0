-- The end of a run among the elements that are left.
use Rattle.std.proofs.Common.{◌≡◌, ℕ, zero, suc, ◌+◌, List, [], ◌∷◌, ◌++◌, Some, get_or, length, reverse, slice_get, Ordering, append_assoc, refl, sym, ap, ◌∙◌, arith}
use Rattle.std.proofs.lemmas.List.{length-reverse, reverse-append}
use Rattle.mg_pages.specs.Order.{below}
use Rattle.mg_pages.specs.Runs.{continued, continued_after, ended}

module _ {T : Type 0} (order : T → T → Ordering) (xs : List T) where
  behind_at : (a : T) (run : List T) (i : ℕ) (x : T) → slice_get run i ≡ Some x → slice_get (continued_after order xs a run) i ≡ Some x
  behind_at a [] i x e = absurd cc
  behind_at a (y ∷ run) zero x e = e
  behind_at a (y ∷ run) (suc i) x e = behind_at y run i x e

  -- an element of a run has the same place among all that are left
  pub continued_at : (run : List T) (i : ℕ) (x : T) → slice_get run i ≡ Some x → slice_get (continued order xs run) i ≡ Some x
  continued_at [] i x e = absurd cc
  continued_at (y ∷ run) zero x e = e
  continued_at (y ∷ run) (suc i) x e = behind_at y run i x e

  at_seam : (us : List T) (x : T) (vs : List T) → slice_get (us ++ x ∷ vs) (length us) ≡ Some x
  at_seam [] x vs = refl
  at_seam (u ∷ us) x vs = at_seam us x vs

  -- read from the last to the first, the first of a run comes last of it
  pub ended_at : (run : List T) (i : ℕ) (x : T) → i + 1 ≡ length run → x ≡ get_or run 0 x → slice_get (reverse (ended order xs run)) i ≡ Some x
  ended_at [] i x n e = absurd (omega (arith, n))
  ended_at (y ∷ run) i x n e =
      let before = below (order y) xs in
      let whole : reverse (before ++ y ∷ run) ≡ reverse run ++ y ∷ reverse before =
      reverse-append before (y ∷ run) ∙ ap (λ us. us ++ reverse before) (reverse-append (y ∷ []) run) ∙ append_assoc (reverse run) (y ∷ []) (reverse before) in
      let at : i ≡ length (reverse run) = omega (arith, n, length-reverse run) in
      ap (slice_get (reverse (before ++ y ∷ run))) at ∙ ap (λ us. slice_get us (length (reverse run))) whole ∙ at_seam (reverse run) y (reverse before) ∙ ap Some (sym e)
