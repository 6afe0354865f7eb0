use Rattle.std.proofs.Common.{take}
use Rattle.mg_selector.specs.View.{arms_view}
use Rattle.mg_normal.specs.Says.{AllSay}
use Rattle.mg_normal.specs.View.{conditions_view}
use Rattle.mg_normal.proofs.pushed.+push_inwards.Given as goal

-- the conditions so far say what the arms so far do
abbrev pub invariant-push_arms-loop-arm : goal.invariant-push_arms-loop-arm
invariant-push_arms-loop-arm l = AllSay (arms_view (take l.arm-index l.arms)) l.sense (conditions_view l.conditions.items)
