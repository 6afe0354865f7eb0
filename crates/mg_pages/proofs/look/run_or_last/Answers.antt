use Rattle.mg_pages.specs.Subtree.{elements_of}
use Rattle.mg_pages.proofs.Lent.{end_more}
use Rattle.std.proofs.Common.{refl}
use Rattle.mg_pages.proofs.look.run_or_last.Goals as goal

pub returns-then-run-gt0 : goal.returns-then-run-gt0
returns-then-run-gt0 g c = λ xs r. end_more c.args.run.now xs (elements_of c.args.children.now) _ r c.if-run-gt0.true refl
