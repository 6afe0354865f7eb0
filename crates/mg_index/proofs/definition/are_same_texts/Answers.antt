use Rattle.std.proofs.Common.{nat_eq, string_bytes, sym, ◌∙◌}
use Rattle.std.specs.Cmp.Derive.Mapped.{pointwise-map}
use Rattle.std.specs.Cmp.Lexicographic.{pointwise}
use Rattle.mg_index.proofs.definition.are_same_texts.Goals as goal

pub returns : goal.returns
returns c = c.eq.ensures ∙ sym (pointwise-map string_bytes (pointwise nat_eq) c.args.texts.now c.args.others.now)
