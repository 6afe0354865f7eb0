-- New seats have seen nothing.
use Rattle.std.proofs.Common.{◌≡◌, ℕ, zero, suc, List, [], ◌∷◌, ◌++◌, length, length-append, refl, sym, ap, ◌∙◌, arith}
use Rattle.mg_live.specs.SeatView.{SeatView, at_first, new_seats}

abbrev last_of : (d : SeatView) → List SeatView → SeatView
last_of d [] = d
last_of d (s ∷ ss) = last_of s ss

last_of_append : (d : SeatView) (ss : List SeatView) (s : SeatView) → last_of d (ss ++ s ∷ []) ≡ s
last_of_append d [] s = refl
last_of_append d (t ∷ ss) s = last_of_append t ss s

pub last_is_new : (n : ℕ) (ss : List SeatView) (s : SeatView) → new_seats n ≡ ss ++ s ∷ [] → s.seen ≡ []
last_is_new zero ss s is = absurd (omega (arith, ap length is, length-append ss (s ∷ [])))
last_is_new (suc n) ss s is =
    let same : at_first n ≡ s = sym (last_of_append s (new_seats n) (at_first n)) ∙ ap (last_of s) is ∙ last_of_append s ss s in
    ap (λ (t : SeatView). t.seen) (sym same)
