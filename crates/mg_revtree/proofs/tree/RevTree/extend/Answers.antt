use Rattle.std.proofs.Common.{Ok, option_copied, string_bytes, subst}
use Rattle.mg_value.specs.Value.{Value}
use Rattle.mg_revtree.specs.Tree.{StandsFor}
use Rattle.mg_revtree.specs.Changes.{extension, with_path}
use Rattle.mg_revtree.proofs.Extend.{decides_made, decides_refused, only_memory, unrefused}
use Rattle.mg_revtree.proofs.tree.RevTree.extend.Goals as goal

pub returns-in_err-pos-clause-decided : goal.returns-in_err-pos-clause-decided
returns-in_err-pos-clause-decided c = λ h stands.
    decides_refused _ (option_copied c.args.parent) c.in_err-pos.field-0.0 c.from_residual.result (c.in_err-pos.ensures.decided h stands) c.from_residual.ensures.1

pub returns-in_err-body-clause-decided : goal.returns-in_err-body-clause-decided
returns-in_err-body-clause-decided c = λ h stands.
    decides_made _ c.from_residual-in_err-body.result (unrefused _ (option_copied c.args.parent) c.in_ok-pos.pos (c.in_ok-pos.ensures.decided h stands)) (only_memory c.from_residual-in_err-body.result c.from_residual-in_err-body.ensures.1)

pub returns-in_err-make_revision-clause-decided : goal.returns-in_err-make_revision-clause-decided
returns-in_err-make_revision-clause-decided c = λ h stands.
    decides_made _ c.from_residual-in_err-make_revision.result (unrefused _ (option_copied c.args.parent) c.in_ok-pos.pos (c.in_ok-pos.ensures.decided h stands)) (only_memory c.from_residual-in_err-make_revision.result c.from_residual-in_err-make_revision.ensures.1)

pub returns-clause-decided : goal.returns-clause-decided
returns-clause-decided c = λ h stands.
    decides_made _ (Ok tt) (unrefused _ (option_copied c.args.parent) c.in_ok-pos.pos (c.in_ok-pos.ensures.decided h stands)) tt

pub returns-clause-accepted : goal.returns-clause-accepted
returns-clause-accepted c = λ h stands.
    subst (λ (b : Value). StandsFor c.make_revision.new.self (with_path h (extension (option_copied c.args.parent) (string_bytes c.args.id) c.args.deleted b))) c.in_ok-body.ensures
    (c.in_ok-make_revision.ensures.accepted h stands)
