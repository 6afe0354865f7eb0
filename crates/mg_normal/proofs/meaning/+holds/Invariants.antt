use Rattle.std.proofs.Common.{◌≡◌, drop, option_map}
use Rattle.mg_normal.specs.Condition.{every_condition, some_condition}
use Rattle.mg_normal.specs.View.{conditions_view}
use Rattle.mg_normal.proofs.meaning.+holds.Given as goal

-- the result for all is the result for what is left
abbrev pub invariant-every_condition-loop-condition : goal.invariant-every_condition-loop-condition
invariant-every_condition-loop-condition g l =
    let x = option_map g.L.LentValue.value l.fn.part in
    let y = option_map g.L.LentValue.value l.part in
    every_condition (conditions_view l.conditions) x ≡ every_condition (conditions_view (drop l.condition-index l.conditions)) y

abbrev pub invariant-some_condition-loop-condition : goal.invariant-some_condition-loop-condition
invariant-some_condition-loop-condition g l =
    let x = option_map g.L.LentValue.value l.fn.part in
    let y = option_map g.L.LentValue.value l.part in
    some_condition (conditions_view l.conditions) x ≡ some_condition (conditions_view (drop l.condition-index l.conditions)) y
