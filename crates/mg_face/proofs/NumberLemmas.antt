-- A float is whole where its whole part, as a float, equals it.
use Rattle.std.proofs.Common.{◌≡◌, ℕ, zero, suc, ◌-◌, ◌*◌, ◌/◌, ◌%◌, ◌^◌, ◌<◌, ◌≤◌, ℤ, pos, negsuc, neg_ℤ, unsigned_abs, Bool, true, false, ◌&&◌, ◌||◌, Some, None, min, refl, sym, ap, ◌∙◌, inl, inr, arith, true≢false, div-add-mod', mul-lt-mul_of_pos_right, mul_right_comm, mul-one, zero-mul}
use Rattle.std.specs.Prelude.{◌==◌}
use Rattle.std.specs.Float.{Float, nan, inf, fin, binary64}
use Rattle.std.specs.Float.Ieee
use Rattle.std.proofs.lemmas.Bool.{cases_order}
use Rattle.std.proofs.lemmas.Bool.Decides.{nat_tests}
use lib.Ieee.{up, down}
use lib.Ieee.Exact.{HasValue}
use lib.Ieee.Back.{round_whole}
use lib.Ieee.Fits.{down_pos}
use mathlib.Core.Bool.{beq}
use Rattle.mg_face.specs.Numbers.{with_sign, whole_float}

same_size : (a b c : ℕ) → 0 < c → (a * c == b * c) ≡ (a == b)
same_size a b c some =
    elim (cases_order a b) [
      | inl same ↦ let e : a * c ≡ b * c = ap (λ (x : ℕ). x * c) same in grind (arith, nat_tests)
      | inr (inl below) ↦ let e = mul-lt-mul_of_pos_right below some in grind (arith, nat_tests)
      | inr (inr above) ↦ let e = mul-lt-mul_of_pos_right above some in grind (arith, nat_tests)
    ]

no_size : (n c : ℕ) → 0 < c → (n * c == 0) ≡ (n == 0)
no_size n c some = ap (λ (x : ℕ). n * c == x) (sym (zero-mul c)) ∙ same_size n 0 c some

-- the whole part times the divisor is the dividend where nothing is left
no_rest : (a d : ℕ) → (a / d * d == a) ≡ (a % d == 0)
no_rest a d = let parts = div-add-mod' a d in grind (arith, nat_tests, parts)

-- whether a float of the size n equals another
value_eq : (y : Float) (s t : Bool) (n m : ℕ) (e : ℤ) → HasValue y s n 1 → Ieee.eq y (fin t m e) ≡ ((n * down e == m * up e) && (beq s t || (n == 0)))
unfolding Ieee.eq
value_eq nan s t n m e h = absurd h
value_eq (inf u) s t n m e h = absurd h
value_eq (fin u k g) s t n m e h =
    let size : k * up g * down e ≡ n * down e * down g = ap (λ (x : ℕ). x * down e) (sym (mul-one (k * up g)) ∙ h.1) ∙ mul_right_comm n (down g) (down e) in
    let sign : u ≡ s = h.0 in
    rw (sign, size, same_size (n * down e) (m * up e) (down g) (down_pos g), no_size (n * down e) (down g) (down_pos g), no_size n (down e) (down_pos e)) refl

and_true : (b : Bool) → (b && true) ≡ b
and_true true = refl
and_true false = refl

pos_eq : (q m : ℕ) (e : ℤ) → q ≤ 2 ^ 53 → Ieee.eq (Ieee.of_int binary64 (pos q)) (fin false m e) ≡ (q * down e == m * up e)
unfolding Ieee.of_int
pos_eq q m e small = value_eq (Ieee.of_int binary64 (pos q)) false false q m e (round_whole binary64 false q small) ∙ and_true (q * down e == m * up e)

neg_eq : (q m : ℕ) (e : ℤ) → q ≤ 2 ^ 53 → Ieee.eq (Ieee.of_int binary64 (neg_ℤ (pos q))) (fin true m e) ≡ (q * down e == m * up e)
unfolding Ieee.of_int
neg_eq zero m e small = value_eq (Ieee.of_int binary64 (pos 0)) false true 0 m e (round_whole binary64 false 0 small) ∙ and_true (0 * down e == m * up e)
neg_eq (suc q) m e small = value_eq (Ieee.of_int binary64 (negsuc q)) true true (suc q) m e (round_whole binary64 true (suc q) small) ∙ and_true (suc q * down e == m * up e)

fin_whole : (s : Bool) (m : ℕ) (e : ℤ) → m * up e / down e ≤ 2 ^ 53 → (m * up e / down e * down e == m * up e) ≡ true → whole_float (fin s m e) ≡ Some (with_sign s (m * up e / down e))
fin_whole s m e small same = let all : (m * up e % down e == 0) ≡ true = sym (no_rest (m * up e) (down e)) ∙ same in grind (arith, nat_tests, all)

fin_broken : (s : Bool) (m : ℕ) (e : ℤ) → (m * up e / down e * down e == m * up e) ≡ false → whole_float (fin s m e) ≡ None
fin_broken s m e other = let some : (m * up e % down e == 0) ≡ false = sym (no_rest (m * up e) (down e)) ∙ other in rw some refl

fin_past : (s : Bool) (m : ℕ) (e : ℤ) → 2 ^ 53 < m * up e / down e → whole_float (fin s m e) ≡ None
fin_past s m e past = grind (arith, nat_tests)

abs_neg : (q : ℕ) → unsigned_abs (neg_ℤ (pos q)) ≡ q
abs_neg zero = refl
abs_neg (suc q) = refl

no_nan : (y : Float) → Ieee.eq y nan ≡ false
unfolding Ieee.eq
no_nan nan = refl
no_nan (inf s) = refl
no_nan (fin s m e) = refl

pub is_whole : (x : Float) → unsigned_abs (Ieee.to_signed 63 x) ≤ 2 ^ 53 → Ieee.eq (Ieee.of_int binary64 (Ieee.to_signed 63 x)) x ≡ true → whole_float x ≡ Some (Ieee.to_signed 63 x)
unfolding Ieee.to_signed
is_whole nan small same = absurd (true≢false (sym same ∙ no_nan _))
is_whole (inf true) small same = absurd (omega arith)
is_whole (inf false) small same = absurd (omega arith)
is_whole (fin false m e) small same =
    let fits : min (m * up e / down e) (2 ^ 63 - 1) ≡ m * up e / down e = omega arith in
    let below : m * up e / down e ≤ 2 ^ 53 = omega arith in
    fin_whole false m e below (sym (pos_eq (m * up e / down e) m e below) ∙ rw fits at same) ∙ ap (λ (q : ℕ). Some (pos q)) (sym fits)
is_whole (fin true m e) small same =
    let least : min (m * up e / down e) (2 ^ 63) ≤ 2 ^ 53 = rw abs_neg at small in
    let fits : min (m * up e / down e) (2 ^ 63) ≡ m * up e / down e = omega arith in
    let below : m * up e / down e ≤ 2 ^ 53 = omega arith in
    fin_whole true m e below (sym (neg_eq (m * up e / down e) m e below) ∙ rw fits at same) ∙ ap (λ (q : ℕ). Some (neg_ℤ (pos q))) (sym fits)

pub is_broken : (x : Float) → unsigned_abs (Ieee.to_signed 63 x) ≤ 2 ^ 53 → Ieee.eq (Ieee.of_int binary64 (Ieee.to_signed 63 x)) x ≡ false → whole_float x ≡ None
unfolding Ieee.to_signed
is_broken nan small other = refl
is_broken (inf s) small other = refl
is_broken (fin false m e) small other =
    let fits : min (m * up e / down e) (2 ^ 63 - 1) ≡ m * up e / down e = omega arith in
    let below : m * up e / down e ≤ 2 ^ 53 = omega arith in
    fin_broken false m e (sym (pos_eq (m * up e / down e) m e below) ∙ rw fits at other)
is_broken (fin true m e) small other =
    let least : min (m * up e / down e) (2 ^ 63) ≤ 2 ^ 53 = rw abs_neg at small in
    let fits : min (m * up e / down e) (2 ^ 63) ≡ m * up e / down e = omega arith in
    let below : m * up e / down e ≤ 2 ^ 53 = omega arith in
    fin_broken true m e (sym (neg_eq (m * up e / down e) m e below) ∙ rw fits at other)

pub is_past : (x : Float) → 2 ^ 53 < unsigned_abs (Ieee.to_signed 63 x) → whole_float x ≡ None
unfolding Ieee.to_signed
is_past nan past = refl
is_past (inf s) past = refl
is_past (fin false m e) past = fin_past false m e (omega arith)
is_past (fin true m e) past = let most : 2 ^ 53 < min (m * up e / down e) (2 ^ 63) = rw abs_neg at past in fin_past true m e (omega arith)
