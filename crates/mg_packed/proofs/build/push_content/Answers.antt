use Rattle.std.proofs.Common.{◌++◌, sym, ap, ◌∙◌}
use Rattle.mg_packed.proofs.Parts.{plain_is}
use Rattle.mg_packed.proofs.build.push_content.Goals as goal

pub returns-then-is_plain : goal.returns-then-is_plain
returns-then-is_plain c = c.in_ok-extend_from_slice.ensures.items ∙ ap (λ x. c.args.out.now.items ++ x) (c.as_bytes.ensures.value ∙ sym (plain_is c.args.text.now (sym c.is_plain.ensures ∙ c.if-is_plain.true)))
