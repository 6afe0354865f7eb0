use Rattle.std.proofs.Common.{◌≡◌, vec_len, take, length}
use Rattle.std.specs.List.{AllZip}
use Rattle.mg_shard.specs.Shard.{shards_view}
use Rattle.mg_scan.specs.Worked.{AllSlots, AreHitsFound}
use Rattle.mg_scan.proofs.workers.hits_in_order.Given as goal

-- the slots that are left, and the hits of the shards so far
abbrev pub invariant-loop-i : goal.invariant-loop-i
invariant-loop-i g l =
    AllSlots l.search (shards_view l.shards) l.slots.items × (vec_len l.slots ≡ length l.shards)
    × AllZip (λ s v. AreHitsFound l.search s v.items) (take l.i (shards_view l.shards)) l.all.items
