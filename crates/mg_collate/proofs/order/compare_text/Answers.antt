use Rattle.std.proofs.Common.{◌≡◌, string_bytes, nat_cmp, sym, ap, ◌∙◌, rules}
use Rattle.std.specs.Cmp.Lexicographic.{slice_cmp}
use Rattle.mg_value.specs.View.{view}
use Rattle.mg_value.specs.Value.{text}
use Rattle.mg_value.specs.declared.value.Json.{the_lemmas}
use Rattle.mg_collate.specs.Order.{value_order}
use Rattle.mg_collate.proofs.Flat.{text_order}
use Rattle.mg_collate.proofs.order.compare_text.Goals as goal

pub returns-in-Text : goal.returns-in-Text
returns-in-Text c =
    let xs = c.args.text.now in
    let ys = string_bytes c.in-Text.other in
    let answer : c.cmp.result ≡ slice_cmp nat_cmp xs ys = search rules in
    let second : text ys ≡ view c.args.value.now = rw c.in-Text.is (search (rules, the_lemmas)) in
    answer ∙ sym (text_order xs ys) ∙ ap (value_order (text xs)) second
