-- The number of a position.
use Rattle.std.proofs.Common.{◌≡◌, ℕ, zero, suc, ◌<◌, ◌^◌, Bool, true, false, Some, None, Result, Ok, Err, List, [], ◌∷◌, length, get_or, nat_lt, nat_le, decimal, ◌⊎◌, inl, inr, refl, ap, sym, ◌∙◌, lit<, arith, rules}
use Rattle.std.specs.Char.{is_ascii_digit}
use Rattle.std.specs.List.{list_all}
use Rattle.std.specs.Result.{OkIff, result_ok}
use Rattle.std.specs.Str.{bytes_eq}
use Rattle.std.specs.Str.Parse.{ParsesUnsigned, digits_value}
use Rattle.std.proofs.lemmas.Bool.Decides.{nat_tests}
use Rattle.std.proofs.lemmas.Fmt.{decimal-digits_value, decimal_digit, first_decimal}
use Rattle.std.proofs.lemmas.Slice.Eq.{bytes_eq-Decides}
use Rattle.std.proofs.lemmas.Str.Parse.{IsDigitsTest, IsNumeralModel, numerals_by_value, parse_digits}
use Rattle.mg_revtree.specs.Revision.{position_of}

two : (b : Bool) → (b ≡ true) ⊎ (b ≡ false)
two true = inl refl
two false = inr refl

tells : IsDigitsTest (λ ds. list_all is_ascii_digit ds ≡ true)
tells = search rules

own : IsNumeralModel (λ ds. list_all is_ascii_digit ds ≡ true) (digits_value 10)
own = numerals_by_value (λ ds. list_all is_ascii_digit ds ≡ true) tells

pub not_digits : (s : List ℕ) → list_all is_ascii_digit s ≡ false → position_of s ≡ None
not_digits s e = rw e refl

pub no_text : (s : List ℕ) → length s ≡ 0 → position_of s ≡ None
no_text [] e = refl
no_text (b ∷ s) e = absurd (omega (arith, e))

-- a leading zero
pub zero_first : (s : List ℕ) → get_or s 0 0 ≡ 48 → position_of s ≡ None
zero_first s e =
    let v = digits_value 10 s in
    elim (two (list_all is_ascii_digit s)) [
      | inr f ↦ rw f refl
      | inl d ↦ elim (two (nat_lt 0 v)) [
        | inr f ↦ rw (d, f) refl
        | inl a ↦ elim (two (nat_le v 4294967295)) [
          | inr f ↦ rw (d, a, f) refl
          | inl b ↦ elim (two (bytes_eq (decimal v) s)) [
            | inr f ↦ rw (d, a, b, f) refl
            | inl q ↦ absurd (
                let some : 0 < v = grind (arith, nat_tests) in
                let small : v < 2 ^ 64 = grind (arith, nat_tests) in
                let first : 48 < get_or (decimal v) 0 0 = first_decimal v some small in
                let same : get_or (decimal v) 0 0 ≡ get_or s 0 0 = ap (λ t. get_or t 0 0) ((bytes_eq-Decides (decimal v) s).0 q) in
                omega arith)
          ]
        ]
      ]
    ]

-- what the parser reads of digits with no leading zero
pub position_read : {E : Type 0} → (s : List ℕ) (r : Result ℕ E) → list_all is_ascii_digit s ≡ true → 0 < length s → (get_or s 0 0 ≡ 48 → ⊥) → ParsesUnsigned 32 10 s r → result_ok r ≡ position_of s
position_read {E} s r d some first h = read r (parse_digits own 32 s r h d)
  where
    read : (o : Result ℕ E) → OkIff o ((0 < length s) × (digits_value 10 s < 2 ^ 32)) (digits_value 10 s) → result_ok o ≡ position_of s
    read (Ok n) k =
        let e : decimal (digits_value 10 s) ≡ s = decimal-digits_value own s d some (λ z. absurd (first z)) (omega (arith, k.0.1)) in
        let q = (bytes_eq-Decides (decimal (digits_value 10 s)) s).1 e in
        let above : 0 < digits_value 10 s = positive (digits_value 10 s) refl e in
        let a : nat_lt 0 (digits_value 10 s) ≡ true = grind (arith, nat_tests) in
        let within : digits_value 10 s < 2 ^ 32 = k.0.1 in
        let b : nat_le (digits_value 10 s) 4294967295 ≡ true = grind (arith, nat_tests) in
        rw (d, a, b, q) (ap Some k.1)
      where
        positive : (m : ℕ) → digits_value 10 s ≡ m → decimal (digits_value 10 s) ≡ s → 0 < m
        positive zero z e = absurd (first (ap (λ t. get_or t 0 0) (sym e ∙ ap decimal z ∙ decimal_digit 0 (lit< tt))))
        positive (suc m) z e = omega arith
    read (Err x) k =
        let large : nat_le (digits_value 10 s) 4294967295 ≡ false = elim (two (nat_le (digits_value 10 s) 4294967295)) [
          | inr f ↦ f
          | inl t ↦ absurd (k (some, (let u : digits_value 10 s < 2 ^ 32 = grind (arith, nat_tests) in u)))
        ] in
        elim (two (nat_lt 0 (digits_value 10 s))) [ inl a ↦ rw (d, a, large) refl | inr a ↦ rw (d, a) refl ]
