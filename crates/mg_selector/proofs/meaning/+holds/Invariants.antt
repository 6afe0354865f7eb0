use Rattle.std.proofs.Common.{◌≡◌, Some, drop, option_map}
use Rattle.mg_value.specs.Value.{Value}
use Rattle.mg_value.proofs.Items.{items_past}
use Rattle.mg_selector.specs.Predicate.{some_item, every_item}
use Rattle.mg_selector.specs.Meaning.{holds_in, every_arm, some_arm}
use Rattle.mg_selector.specs.View.{selector_of, arms_view}
use Rattle.mg_selector.specs.declared.sense.Sense.TheVariants.{Plain}
use Rattle.mg_selector.proofs.meaning.+holds.Given as goal

-- the result for all is the result for what is left
abbrev pub invariant-every_arm-loop-arm : goal.invariant-every_arm-loop-arm
invariant-every_arm-loop-arm g l =
    let x = option_map g.L.LentValue.value l.fn.part in
    let y = option_map g.L.LentValue.value l.part in
    every_arm (arms_view l.arms) l.sense x ≡ every_arm (arms_view (drop l.arm-index l.arms)) l.sense y

abbrev pub invariant-some_arm_if_any-loop-arm : goal.invariant-some_arm_if_any-loop-arm
invariant-some_arm_if_any-loop-arm g l =
    let x = option_map g.L.LentValue.value l.fn.part in
    let y = option_map g.L.LentValue.value l.part in
    some_arm (arms_view l.arms) l.sense x ≡ some_arm (arms_view (drop l.arm-index l.arms)) l.sense y

abbrev pub invariant-some_element-loop-place : goal.invariant-some_element-loop-place
invariant-some_element-loop-place g l =
    let p = λ (v : Value). holds_in (selector_of l.inner) Plain (Some v) in
    let vs = g.L.LentValue.items l.fn.items in
    some_item p vs ≡ some_item p (items_past l.place vs)

abbrev pub invariant-each_element-loop-place : goal.invariant-each_element-loop-place
invariant-each_element-loop-place g l =
    let p = λ (v : Value). holds_in (selector_of l.inner) Plain (Some v) in
    let vs = g.L.LentValue.items l.fn.items in
    every_item p vs ≡ every_item p (items_past l.place vs)
