use Rattle.std.proofs.Common.{◌≡◌, not, true, sym, ap, ◌∙◌}
use Rattle.mg_revtree.proofs.Lists.{kept_somewhere}
use Rattle.mg_revtree.proofs.leaf_list.undeleted_among.Goals as goal

pub returns-in_err-push-clause-none : goal.returns-in_err-push-clause-none
returns-in_err-push-clause-none c = λ none.
    let kept : not c.shared-item.result.deleted ≡ true = ap (λ l. not l.deleted) (sym (c.leaf.view_is ∙ c.leaf-leaf.ensures)) ∙ ap not c.if-not-leaf.true in
    absurd (kept_somewhere (λ l. not l.deleted) c.args.leaves.now c.loop-shared.shared-index c.shared-item.result c.loop-shared-test.true kept c.shared-item.is none)
