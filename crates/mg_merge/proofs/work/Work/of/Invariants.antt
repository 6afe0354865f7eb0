use Rattle.std.proofs.Common.{◌≡◌, take, map, length}
use Rattle.mg_merge.proofs.work.Work.of.Given as goal

abbrev pub invariant-loop-list : goal.invariant-loop-list
invariant-loop-list g l = l.handed.items ≡ map (λ v. length v.items) (take l.list-index l.lists)
