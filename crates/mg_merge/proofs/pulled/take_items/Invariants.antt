use Rattle.std.proofs.Common.{◌-◌, ◌<◌, ◌≤◌, All, List, length, map, vec_len}
use Rattle.std.specs.BinaryHeap.{heap_items}
use Rattle.mg_collate.specs.declared.direction.Direction.{Direction}
use Rattle.mg_merge.specs.Heads.{GoesOn}
use Rattle.mg_merge.specs.Pulled.{GiveFrom, IsGivenBy}
use Rattle.mg_merge.proofs.pulled.take_items.Given as goal

abbrev pub invariant-loop-heads : goal.invariant-loop-heads
invariant-loop-heads g l = record {
  within : vec_len l.items ≤ l.take;
  lists : All (λ head. head.list < length l.sources) (heap_items l.heads);
  goes_on : (direction : Direction) → GoesOn g.S.Source.key_of g.T.Ranked.row_of g.S.Source.key_row direction (map g.S.Source.left l.fn.sources) (heap_items l.fn.heads) l.items.items (map g.S.Source.left l.sources) (heap_items l.heads);
  given : (start : List g.row.S.Denot) → All (λ head. IsGivenBy g.S.Source.offers start head.item) (heap_items l.fn.heads) → GiveFrom g.S.Source.offers start l.fn.sources
      → All (λ head. IsGivenBy g.S.Source.offers start head.item) (heap_items l.heads) × GiveFrom g.S.Source.offers start l.sources × All (IsGivenBy g.S.Source.offers start) l.items.items;
}

abbrev pub decreases-loop-heads : goal.decreases-loop-heads
decreases-loop-heads g l = l.take - vec_len l.items
