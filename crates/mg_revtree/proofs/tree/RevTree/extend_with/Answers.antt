use Rattle.std.proofs.Common.{Ok, option_copied}
use Rattle.mg_revtree.proofs.Extend.{decides_made, decides_refused, only_memory, unrefused}
use Rattle.mg_revtree.proofs.tree.RevTree.extend_with.Goals as goal

pub returns-in_err-pos-clause-decided : goal.returns-in_err-pos-clause-decided
returns-in_err-pos-clause-decided c = λ h stands.
    decides_refused _ (option_copied c.args.parent) c.in_err-pos.field-0.0 c.from_residual.result (c.in_err-pos.ensures.decided h stands) c.from_residual.ensures.1

pub returns-in_err-make_revision-clause-decided : goal.returns-in_err-make_revision-clause-decided
returns-in_err-make_revision-clause-decided c = λ h stands.
    decides_made _ c.from_residual-in_err-make_revision.result (unrefused _ (option_copied c.args.parent) c.in_ok-pos.pos (c.in_ok-pos.ensures.decided h stands)) (only_memory c.from_residual-in_err-make_revision.result c.from_residual-in_err-make_revision.ensures.1)

pub returns-clause-decided : goal.returns-clause-decided
returns-clause-decided c = λ h stands.
    decides_made _ (Ok tt) (unrefused _ (option_copied c.args.parent) c.in_ok-pos.pos (c.in_ok-pos.ensures.decided h stands)) tt
