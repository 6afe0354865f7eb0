use Rattle.std.proofs.Common.{◌≡◌, ◌∙◌, ℕ, ◌+◌, ◌<◌, List, true, false, nat_le, length, get_or, sym, ap, arith}
use Rattle.std.specs.Char.{digit_value, is_ascii_digit}
use Rattle.std.specs.Str.Parse.{digits_value}
use Rattle.std.proofs.lemmas.Bool.{and_from, and_right, cond-false}
use Rattle.std.proofs.lemmas.Bool.Decides.{nat_tests}
use Rattle.std.proofs.lemmas.Int.Digits.{digits_value_more}
use Rattle.std.proofs.lemmas.List.Folds.{list_all_more}
use Rattle.std.proofs.lemmas.Str.Parse.{digits_value-take-le}
use Rattle.mangod.proofs.arguments.number.Goals as goal

pub returns-then-number-most-clause-value : goal.returns-then-number-most-clause-value
returns-then-number-most-clause-value c =
    let inside : c.loop-digit.digit-index < length c.args.arg.now = omega (arith, ap length c.as_bytes-digit-items.ensures.value) in
    let digit : digit_value (get_or c.args.arg.now c.loop-digit.digit-index 0) ≡ c.from.result = grind (arith, nat_tests) in
    let large : c.args.most < digits_value 10 c.args.arg.now =
    omega (arith, digits_value_more 10 c.args.arg.now c.loop-digit.digit-index inside, c.loop-digit.invariant.value, digits_value-take-le 10 c.args.arg.now (c.loop-digit.digit-index + 1) (omega arith)) in
    let test : nat_le (digits_value 10 c.args.arg.now) c.args.most ≡ false = grind (arith, nat_tests) in
    sym (cond-false _ _ _ (and_right _ _ (and_right _ _ test)))

pub loop-digit-preserved : goal.loop-digit-preserved
loop-digit-preserved c =
    let inside : c.loop-digit.digit-index < length c.args.arg.now = omega (arith, ap length c.as_bytes-digit-items.ensures.value) in
    let digit : digit_value (get_or c.args.arg.now c.loop-digit.digit-index 0) ≡ c.from.result = grind (arith, nat_tests) in
    let passes : is_ascii_digit (get_or c.args.arg.now c.loop-digit.digit-index 0) ≡ true =
    ap (λ (bytes : List ℕ). is_ascii_digit (get_or bytes c.loop-digit.digit-index 0)) (sym c.as_bytes-digit-items.ensures.value) ∙ sym c.if-not-is_ascii_digit.ensures.value in
    record {
      value = omega (arith, digits_value_more 10 c.args.arg.now c.loop-digit.digit-index inside, c.loop-digit.invariant.value);
      digits = rw (list_all_more is_ascii_digit c.args.arg.now c.loop-digit.digit-index 0 inside) (and_from _ _ c.loop-digit.invariant.digits passes);
      small = omega arith;
    }
