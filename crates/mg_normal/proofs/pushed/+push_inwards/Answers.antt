use Rattle.std.proofs.Common.{◌≡◌, ◌+◌, ◌∷◌, ◌++◌, [], length, take, sym, ap, ◌∙◌, arith}
use Rattle.std.proofs.lemmas.List.{take_more}
use Rattle.std.proofs.lemmas.Bool.Decides.{nat_tests}
use Rattle.std.proofs.lemmas.Result.{IfOk-weaker}
use Rattle.mg_selector.specs.View.{arms_view}
use Rattle.mg_normal.specs.View.{condition_of}
use Rattle.mg_normal.proofs.Said.{one_more, all_said, any_said, object_said}
use Rattle.mg_normal.proofs.pushed.+push_inwards.Goals as goal
use Rattle.mg_normal.proofs.pushed.+push_inwards.Goals.{object-in_default-via-then-arms-lt1, object-in_default-via-else-arms-lt1+else-arms-lt2}

pub all_of-returns : goal.all_of-returns
all_of-returns t c = all_said (arms_view c.args.arms.now) c.args.sense c.in_ok-push_arms.field-0 c.in_ok-push_arms.ensures

pub any_of-returns : goal.any_of-returns
any_of-returns t c = any_said (arms_view c.args.arms.now) c.args.sense c.in_ok-push_arms.field-0 c.in_ok-push_arms.ensures

pub push_arms-loop-arm-preserved : goal.push_arms-loop-arm-preserved
push_arms-loop-arm-preserved t c =
    let l = c.loop-arm in
    let arms = c.args.arms.now in
    let arm = c.arm-item.result in
    let so_far : take (l.arm-index + 1) arms ≡ take l.arm-index arms ++ arm ∷ [] = take_more arms l.arm-index arm (omega arith) ∙ ap (λ x. take l.arm-index arms ++ x ∷ []) (sym c.arm-item.is) in
    rw (so_far, c.in_ok-push.ensures.items) (one_more (take l.arm-index arms) l.conditions.items c.args.sense arm c.in_ok-push_inwards.field-0 l.invariant c.in_ok-push_inwards.ensures)

pub object-returns-in_default : goal.object-returns-in_default
object-returns-in_default t c =
    let arms = c.args.arms.now in
    let not_one : length arms ≡ 1 → ⊥ = elim c.in_default.branch [ object-in_default-via-then-arms-lt1 w ↦ λ e. grind (arith, nat_tests) | object-in_default-via-else-arms-lt1+else-arms-lt2 w ↦ λ e. grind (arith, nat_tests) ] in
    IfOk-weaker c.conjunction.result _ _ (λ f. object_said arms c.args.sense (condition_of f) not_one) c.conjunction.ensures
