use Rattle.std.proofs.Common.{◌+◌, ◌<◌, ◌^◌, arith, ap, length}
use Rattle.std.proofs.Math.Facts.{Fits-of_lt}
use Rattle.mg_pages.proofs.Counts.{count_within}
use Rattle.mg_pages.proofs.tree.count_of.Goals as goal

pub overflow_add-count : goal.overflow_add-count
overflow_add-count g c =
    let n = count_within c.args.children.now c.loop-child.child-index c.child-item.result c.loop-child-test.true c.child-item.is in
    let small : c.loop-child.count + c.count-count.result < 2 ^ 64 = omega (arith, n, c.loop-child.invariant, c.count-count.ensures, ap (λ t. length t.elements) c.tree.ensures, c.requires) in
    Fits-of_lt small
