use Rattle.std.proofs.Common.{◌≡◌, true, ◌&&◌, nat_lt, length, ap, ◌∙◌, sym, rules, tests, arith}
use Rattle.std.specs.Char.{is_ascii_digit}
use Rattle.std.specs.List.{list_all}
use Rattle.std.proofs.lemmas.Bool.Decides.{nat_tests}
use Rattle.std.proofs.lemmas.Iterator.{YieldsList-from_slice}
use Rattle.std.proofs.lemmas.Iterator.Search.{all_from_yields_List}
use Rattle.mg_face.proofs.count.is_number.Goals as goal

pub returns-then-not-is_empty : goal.returns-then-not-is_empty
returns-then-not-is_empty c =
    let text = c.args.text.now in
    let all = all_from_yields_List is_ascii_digit _ _ _ c.all.ensures.ran (YieldsList-from_slice text cc) (λ x b q k. search (rules, tests)) in
    let some : nat_lt 0 (length text) ≡ true = grind (arith, nat_tests) in
    all ∙ sym (ap (λ b. b && list_all is_ascii_digit text) some)
