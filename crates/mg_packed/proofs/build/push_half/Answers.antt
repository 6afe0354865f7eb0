use Rattle.std.proofs.Common.{◌++◌, ap, ◌∙◌}
use Rattle.mg_packed.specs.Tables.{half}
use Rattle.mg_packed.proofs.build.push_half.Goals as goal

pub returns : goal.returns
unfolding half
returns c = c.in_ok-extend_from_slice.ensures.items ∙ ap (λ b. c.args.out.now.items ++ b) c.to_le_bytes.ensures
