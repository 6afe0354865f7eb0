use Rattle.std.proofs.Common.{string_bytes, arith}
use Rattle.mg_revtree.proofs.Firsts.{no_run_of}
use Rattle.mg_revtree.proofs.growth.is_run_of.Goals as goal

pub returns-then-ids-ne1 : goal.returns-then-ids-ne1
returns-then-ids-ne1 c = no_run_of string_bytes c.args.rev.now c.args.start c.args.ids.now (λ one. omega (arith, one, c.if-ids-ne1.true))
