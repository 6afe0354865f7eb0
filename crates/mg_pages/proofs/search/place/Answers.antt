use Rattle.std.proofs.Common.{◌<◌, length, is_gt, arith, ap, sym, ◌∙◌, subst}
use Rattle.mg_pages.specs.Subtree.{IsLast}
use Rattle.mg_pages.proofs.Levels.{above_child, below_child}
use Rattle.mg_pages.proofs.Sorted.{greater_from_test}
use Rattle.mg_pages.proofs.search.place.Goals as goal

pub loop-low-preserved-then-is_gt : goal.loop-low-preserved-then-is_gt
loop-low-preserved-then-is_gt g c =
    let ts = c.args.children.now in
    let i = c.next_guess-middle.result in
    let l : i < length ts = omega (arith, c.next_guess-middle.ensures.high, c.loop-low.invariant.within) in
    let key = g.Q.Probe.against c.args.key.now in
    let gt = greater_from_test (key c.last.result.now) (sym (c.is_gt.ensures ∙ ap is_gt c.against.ensures) ∙ c.if-is_gt.true) in
    record {
      in_order = omega (arith, c.next_guess-middle.ensures.low, c.next_guess-middle.ensures.high);
      within = c.loop-low.invariant.within;
      below = below_child ts i c.index-children-middle.result l c.index-children-middle.is g.T.Keyed.order key (g.met.Q.Probe.probes c.args.key.now) c.last.result.now (subst (λ t. IsLast c.last.result.now t.elements) c.tree.ensures c.last.ensures) c.requires.sorted gt;
      above = c.loop-low.invariant.above;
    }

pub loop-low-preserved : goal.loop-low-preserved
loop-low-preserved g c =
    let ts = c.args.children.now in
    let i = c.next_guess-middle.result in
    let l : i < length ts = omega (arith, c.next_guess-middle.ensures.high, c.loop-low.invariant.within) in
    let key = g.Q.Probe.against c.args.key.now in
    record {
      in_order = omega (arith, c.next_guess-middle.ensures.low, c.next_guess-middle.ensures.high);
      within = l;
      below = c.loop-low.invariant.below;
      above = above_child ts i c.index-children-middle.result l c.index-children-middle.is g.T.Keyed.order key (g.met.Q.Probe.probes c.args.key.now) c.last.result.now (subst (λ t. IsLast c.last.result.now t.elements) c.tree.ensures c.last.ensures) c.requires.sorted
          (sym (c.is_gt.ensures ∙ ap is_gt c.against.ensures) ∙ c.if-is_gt.false);
    }
