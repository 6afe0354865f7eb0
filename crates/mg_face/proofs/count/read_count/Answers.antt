use Rattle.std.proofs.Common.{◌≡◌, ◌+◌, get_or, sym, arith, ◌<◌, true}
use Rattle.std.specs.Str.Parse.{digits_value}
use Rattle.std.specs.Char.{digit_value, is_ascii_digit}
use Rattle.std.proofs.lemmas.Bool.Decides.{nat_tests}
use Rattle.std.proofs.lemmas.Int.Digits.{digits_value_more}
use Rattle.mg_face.proofs.CountLemmas.{too_large}
use Rattle.mg_http.proofs.ListLemmas.{list_all_at, digits_value-take-le}
use Rattle.mg_face.proofs.count.read_count.Goals as goal

pub returns-then-n-gt-MAX_COUNT : goal.returns-then-n-gt-MAX_COUNT
returns-then-n-gt-MAX_COUNT c =
    let passes : is_ascii_digit (get_or c.args.digits.now c.loop-b.b-index 0) ≡ true = list_all_at is_ascii_digit c.args.digits.now c.loop-b.b-index 0 c.requires c.loop-b-test.true in
    let digit : digit_value (get_or c.args.digits.now c.loop-b.b-index 0) ≡ c.from.result = grind (arith, nat_tests) in
    let large : 1000 < digits_value 10 c.args.digits.now =
    omega (arith, digits_value_more 10 c.args.digits.now _ c.loop-b-test.true, c.loop-b.invariant.value, digits_value-take-le 10 (c.loop-b.b-index + 1) c.args.digits.now (omega arith)) in
    sym (too_large (digits_value 10 c.args.digits.now) large)

pub loop-b-preserved : goal.loop-b-preserved
loop-b-preserved c =
    let passes : is_ascii_digit (get_or c.args.digits.now c.loop-b.b-index 0) ≡ true = list_all_at is_ascii_digit c.args.digits.now c.loop-b.b-index 0 c.requires c.loop-b-test.true in
    let digit : digit_value (get_or c.args.digits.now c.loop-b.b-index 0) ≡ c.from.result = grind (arith, nat_tests) in
    record {
      value = omega (arith, digits_value_more 10 c.args.digits.now _ c.loop-b-test.true, c.loop-b.invariant.value);
      small = omega arith;
    }
