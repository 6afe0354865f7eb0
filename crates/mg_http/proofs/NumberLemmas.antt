-- Two texts of digits write the same number exactly if they are equal without their leading zeros.
use Rattle.std.proofs.Common.{◌≡◌, ◌∙◌, ℕ, zero, suc, ◌+◌, ◌-◌, ◌*◌, ◌<◌, ◌≤◌, ◌==◌, true, false, cond, List, [], ◌∷◌, length, refl, sym, ap, arith, inl, inr}
use Rattle.std.specs.Prelude.{bytes_eq}
use Rattle.std.specs.Char.{digit_value, is_ascii_digit}
use Rattle.std.specs.List.{list_all}
use Rattle.std.specs.Str.Parse.{digits_value, digits_value_after}
use Rattle.std.proofs.lemmas.Bool.{cases_lt, eqb-true, eq-eqb}
use Rattle.std.proofs.lemmas.Bool.Decides.{nat_tests}
use Rattle.std.proofs.lemmas.Slice.Eq.{bytes_eq-Decides}
use Rattle.mg_http.specs.Significant.{significant}
use Rattle.mg_http.proofs.ListLemmas.{both}

digit_is : (c : ℕ) → is_ascii_digit c ≡ true → digit_value c + 48 ≡ c
digit_is c e = grind (arith, nat_tests)

digit_small : (c : ℕ) → is_ascii_digit c ≡ true → digit_value c < 10
digit_small c e = grind (arith, nat_tests)

-- two texts of as many digits with the same value are equal
same_digits : (xs ys : List ℕ) (n m : ℕ) → length xs ≡ length ys → list_all is_ascii_digit xs ≡ true → list_all is_ascii_digit ys ≡ true
    → digits_value_after 10 n xs ≡ digits_value_after 10 m ys → (n ≡ m) × (xs ≡ ys)
same_digits [] [] n m size a b e = (e, refl)
same_digits [] (y ∷ ys) n m size a b e = absurd (omega (arith, size))
same_digits (x ∷ xs) [] n m size a b e = absurd (omega (arith, size))
same_digits (x ∷ xs) (y ∷ ys) n m size a b e =
    let p = both (is_ascii_digit x) (list_all is_ascii_digit xs) a in
    let q = both (is_ascii_digit y) (list_all is_ascii_digit ys) b in
    let more = same_digits xs ys (n * 10 + digit_value x) (m * 10 + digit_value y) (omega (arith, size)) p.1 q.1 e in
    let leading : n ≡ m = omega (arith, more.0, digit_small x p.0, digit_small y q.0) in
    let digit : x ≡ y = omega (arith, more.0, leading, digit_is x p.0, digit_is y q.0) in
    let tail : xs ≡ ys = more.1 in
    (leading, cc)

abbrev zeros : ℕ → List ℕ → List ℕ
zeros zero ds = ds
zeros (suc n) ds = 48 ∷ zeros n ds

zeros_length : (n : ℕ) (ds : List ℕ) → length (zeros n ds) ≡ n + length ds
zeros_length zero ds = omega arith
zeros_length (suc n) ds = omega (arith, zeros_length n ds)

zeros_digits : (n : ℕ) (ds : List ℕ) → list_all is_ascii_digit ds ≡ true → list_all is_ascii_digit (zeros n ds) ≡ true
zeros_digits zero ds all = all
zeros_digits (suc n) ds all = zeros_digits n ds all

zeros_value : (n : ℕ) (ds : List ℕ) → digits_value 10 (zeros n ds) ≡ digits_value 10 ds
zeros_value zero ds = refl
zeros_value (suc n) ds = zeros_value n ds

zeros_significant : (n : ℕ) (ds : List ℕ) → significant (zeros n ds) ≡ significant ds
zeros_significant zero ds = refl
zeros_significant (suc n) ds = zeros_significant n ds

-- two texts of digits with the same value, the shorter one first, are equal without their leading zeros
same_number_le : (xs ys : List ℕ) → length xs ≤ length ys → list_all is_ascii_digit xs ≡ true → list_all is_ascii_digit ys ≡ true
    → digits_value 10 xs ≡ digits_value 10 ys → significant xs ≡ significant ys
same_number_le xs ys fewer a b e =
    let n : ℕ = length ys - length xs in
    let padded = same_digits (zeros n xs) ys 0 0 (omega (arith, zeros_length n xs, fewer)) (zeros_digits n xs a) b (zeros_value n xs ∙ e) in
    sym (zeros_significant n xs) ∙ ap significant padded.1

same_number : (xs ys : List ℕ) → list_all is_ascii_digit xs ≡ true → list_all is_ascii_digit ys ≡ true
    → digits_value 10 xs ≡ digits_value 10 ys → significant xs ≡ significant ys
same_number xs ys a b e =
    elim (cases_lt (length ys) (length xs)) [
      | inl more ↦ sym (same_number_le ys xs (omega (arith, more)) b a (sym e))
      | inr fewer ↦ same_number_le xs ys fewer a b e
    ]

significant_value : (ds : List ℕ) → digits_value 10 (significant ds) ≡ digits_value 10 ds
significant_value [] = refl
significant_value (d ∷ ds) =
    elim (d == 48) as (λ b. (d == 48) ≡ b → digits_value 10 (cond b (significant ds) (d ∷ ds)) ≡ digits_value 10 (d ∷ ds)) [
      | true ↦ λ e. significant_value ds ∙ ap (λ (c : ℕ). digits_value_after 10 (0 * 10 + digit_value c) ds) (sym (eqb-true d 48 e))
      | false ↦ λ e. refl
    ] refl

pub compared : (xs ys : List ℕ) → list_all is_ascii_digit xs ≡ true → list_all is_ascii_digit ys ≡ true
    → bytes_eq (significant xs) (significant ys) ≡ (digits_value 10 xs == digits_value 10 ys)
compared xs ys a b =
    elim (digits_value 10 xs == digits_value 10 ys) as (λ t. (digits_value 10 xs == digits_value 10 ys) ≡ t → bytes_eq (significant xs) (significant ys) ≡ t) [
      | true ↦ λ e. (bytes_eq-Decides (significant xs) (significant ys)).1 (same_number xs ys a b (eqb-true (digits_value 10 xs) (digits_value 10 ys) e))
      | false ↦ λ e.
          elim (bytes_eq (significant xs) (significant ys)) as (λ t. bytes_eq (significant xs) (significant ys) ≡ t → t ≡ false) [
            | true ↦ λ s.
                let same = (bytes_eq-Decides (significant xs) (significant ys)).0 s in
                let value = sym (significant_value xs) ∙ ap (digits_value 10) same ∙ significant_value ys in
                let f : true ≡ false = sym (eq-eqb (digits_value 10 xs) (digits_value 10 ys) value) ∙ e in f
            | false ↦ λ s. refl
          ] refl
    ] refl
