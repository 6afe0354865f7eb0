use Rattle.std.proofs.Common.{◌≡◌, All, length, map}
use Rattle.std.specs.BinaryHeap.{IsHeap, heap_items}
use Rattle.mg_merge.specs.Pulled.{GiveFrom, IsGivenBy}
use Rattle.mg_merge.specs.Turns.{head_order}
use Rattle.mg_merge.proofs.Fronts.{AreFirstHeads}
use Rattle.mg_merge.proofs.pulled.first_heads.Given as goal

abbrev pub invariant-loop-list : goal.invariant-loop-list
invariant-loop-list g l = record {
  size : length l.sources ≡ length l.fn.sources;
  fronts : AreFirstHeads g.S.Source.key_of l.direction (map g.S.Source.left l.sources) (map g.S.Source.left l.fn.sources) l.list (heap_items l.heads);
  heap : IsHeap (head_order g.T.Ranked.row_of) (heap_items l.heads);
  given : All (λ head. IsGivenBy g.S.Source.offers l.fn.sources head.item) (heap_items l.heads);
  gives : GiveFrom g.S.Source.offers l.fn.sources l.sources;
}
