use Rattle.std.proofs.Common.{◌≡◌, map, take}
use Rattle.mg_selector.specs.View.{selector_of}
use Rattle.mg_selector.proofs.copy.+copy_selector.Given as goal

abbrev pub invariant-copy_arms-loop-arm : goal.invariant-copy_arms-loop-arm
invariant-copy_arms-loop-arm l = map selector_of l.copies.items ≡ map selector_of (take l.arm-index l.arms)
