use Rattle.std.proofs.Common.{◌≡◌, map, take}
use Rattle.mg_merge.specs.Merged.{contents_of}
use Rattle.mg_merge.proofs.merging.whole_lists.Given as goal

abbrev pub invariant-loop-list : goal.invariant-loop-list
invariant-loop-list g l = map (λ rest. rest.items.now) l.rests.items ≡ contents_of (take l.list-index l.lists)
