-- A number above the most is too large.
use Rattle.std.proofs.Common.{◌≡◌, ℕ, ◌<◌, false, cond, eqb, nat_le, Ok, Err, arith}
use Rattle.std.proofs.lemmas.Bool.Decides.{nat_tests}
use Rattle.mg_face.specs.declared.count.CountFault.TheVariants.{NotPositive, TooLarge}
use Rattle.mg_face.specs.Count.{count_of}

pub too_large : (n : ℕ) → 1000 < n → count_of n ≡ Err TooLarge
too_large n large =
    let some : eqb n 0 ≡ false = grind (arith, nat_tests) in
    let above : nat_le n 1000 ≡ false = grind (arith, nat_tests) in
    λ i. cond (some i) (Err NotPositive) (cond (above i) (Ok n) (Err TooLarge))
