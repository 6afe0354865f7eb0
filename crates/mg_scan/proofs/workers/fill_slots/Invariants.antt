use Rattle.std.proofs.Common.{◌≡◌, vec_len, IfOk, All, length}
use Rattle.mg_shard.specs.Shard.{shards_view}
use Rattle.mg_scan.specs.Worked.{AllShardHits, AllSlots}
use Rattle.mg_scan.proofs.workers.fill_slots.Given as goal

abbrev pub invariant-loop-done : goal.invariant-loop-done
invariant-loop-done l = All (λ r. IfOk r (λ v. AllShardHits l.search (shards_view l.shards) v.items)) l.given.items × AllSlots l.search (shards_view l.shards) l.slots.items × (vec_len l.slots ≡ length l.shards)

abbrev pub decreases-loop-done : goal.decreases-loop-done
decreases-loop-done l = vec_len l.given
