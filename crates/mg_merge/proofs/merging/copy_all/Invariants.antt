use Rattle.std.proofs.Common.{◌≡◌, take}
use Rattle.mg_merge.specs.Merged.{lent_view}
use Rattle.mg_merge.proofs.merging.copy_all.Given as goal

abbrev pub invariant-loop-item : goal.invariant-loop-item
invariant-loop-item g l = l.items.items ≡ lent_view (take l.item-index l.lent)
