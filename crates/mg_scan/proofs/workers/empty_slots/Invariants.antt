use Rattle.std.proofs.Common.{◌≡◌, List, vec_len}
use Rattle.mg_shard.specs.Shard.{ShardView}
use Rattle.mg_scan.specs.Worked.{AllSlots}
use Rattle.mg_scan.specs.declared.search.Search.{Search}
use Rattle.mg_scan.proofs.workers.empty_slots.Given as goal

abbrev pub invariant-loop-slot : goal.invariant-loop-slot
invariant-loop-slot l = ((search : Search) (shards : List ShardView) → AllSlots search shards l.slots.items) × (vec_len l.slots ≡ l._slot)
