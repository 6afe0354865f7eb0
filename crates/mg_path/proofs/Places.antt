-- The place that a step names, and the item there.
use Rattle.std.proofs.Common.{◌≡◌, ℕ, ◌<◌, ◌≤◌, ◌^◌, List, [], ◌∷◌, Bool, true, false, Option, Some, None, length, Result, Ok, Err, MatchOption, refl, ap, sym, arith, eqb, cond}
use Rattle.std.specs.Option.{option_and_then}
use Rattle.std.specs.List.{slice_get}
use Rattle.std.specs.Result.{result_ok, OkIff}
use Rattle.std.specs.Str.{all_ascii_digits}
use Rattle.std.specs.Str.Parse.{ParsesUnsigned, digits_value}
use Rattle.std.proofs.lemmas.Str.Parse.{IsNumeralModel, numerals_by_value, tells_all_ascii_digits, parse_plain}
use Rattle.std.proofs.lemmas.Option.{slice_get_past}
use Rattle.mg_value.specs.Value.{Value}
use Rattle.mg_path.specs.Part.{item_place}

-- no array is long enough to have a place from 2^64 on
pub none_so_far : (vs : List Value) (place : Option ℕ) → ((n : ℕ) → place ≡ Some n → 2 ^ 64 ≤ n) → length vs ≤ 2 ^ 64 → option_and_then (λ n. slice_get vs n) place ≡ None
none_so_far vs None far short = refl
none_so_far vs (Some n) far short =
    let past : 2 ^ 64 ≤ n = far n refl in
    slice_get_past vs n (omega arith)

numerals : IsNumeralModel (λ ds. all_ascii_digits ds ≡ true) (digits_value 10)
numerals = numerals_by_value _ tells_all_ascii_digits

Named : List ℕ → Option ℕ → Type 0
Named step r = MatchOption r ((n : ℕ) → item_place step ≡ Some n → 2 ^ 64 ≤ n) (λ n. item_place step ≡ Some n)

far_digits : (b : Bool) (v : ℕ) → (b ≡ true → v < 2 ^ 64 → ⊥) → (n : ℕ) → cond b (Some v) None ≡ Some n → 2 ^ 64 ≤ n
far_digits true v h n e = grind (arith, h refl)
far_digits false v h n e = cc

read_place : {E : Type 0} (c : ℕ) (cs : List ℕ) (r : Result ℕ E) → 49 ≤ c → OkIff r ((all_ascii_digits (c ∷ cs) ≡ true) × (0 < length (c ∷ cs)) × (digits_value 10 (c ∷ cs) < 2 ^ 64)) (digits_value 10 (c ∷ cs)) → Named (c ∷ cs) (result_ok r)
unfolding Named
read_place c cs (Ok n) low h =
    let other : eqb c 48 ≡ false = grind arith in
    rw other (rw h.0.0 (ap Some (sym h.1)))
read_place c cs (Err e) low h =
    let other : eqb c 48 ≡ false = grind arith in
    rw other (far_digits (all_ascii_digits (c ∷ cs)) (digits_value 10 (c ∷ cs)) (λ d s. h (d, omega arith, s)))

-- parsing digits without a leading zero gives the place
pub parsed_place : {E : Type 0} (step : List ℕ) (r : Result ℕ E) (first : ℕ) → ParsesUnsigned 64 10 step r → slice_get step 0 ≡ Some first → 49 ≤ first
    → MatchOption (result_ok r) ((n : ℕ) → item_place step ≡ Some n → 2 ^ 64 ≤ n) (λ n. item_place step ≡ Some n)
unfolding Named
parsed_place [] r first h is low = cc
parsed_place (c ∷ cs) r first h is low =
    let low_c : 49 ≤ c = grind (arith, is) in
    read_place c cs r low_c (parse_plain numerals 64 (c ∷ cs) r h (λ e. grind arith))
