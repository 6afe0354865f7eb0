use Rattle.std.proofs.Common.{◌<◌, length, is_gt, is_lt, arith, ap, sym}
use Rattle.mg_pages.proofs.Sorted.{before_at, after_at, below_upto, above_from, split_at}
use Rattle.mg_pages.proofs.search.find.Goals as goal

pub loop-low-preserved-in-Greater : goal.loop-low-preserved-in-Greater
loop-low-preserved-in-Greater g c =
    let xs = c.args.elements.now in
    let i = c.next_guess-middle.result in
    let l : i < length xs = omega (arith, c.loop-low.invariant.within, c.next_guess-middle.ensures.high) in
    let at = c.index-elements-middle.is in
    record {
      in_order = omega (arith, c.next_guess-middle.ensures.low, c.next_guess-middle.ensures.high);
      within = c.loop-low.invariant.within;
      below = below_upto g.T.Keyed.order (g.Q.Probe.against c.args.key.now) (g.met.Q.Probe.probes c.args.key.now) xs i c.index-elements-middle.result l at c.requires (sym c.in-Greater.ensures);
      above = c.loop-low.invariant.above;
    }

pub loop-low-preserved : goal.loop-low-preserved
loop-low-preserved g c =
    let xs = c.args.elements.now in
    let i = c.next_guess-middle.result in
    let l : i < length xs = omega (arith, c.loop-low.invariant.within, c.next_guess-middle.ensures.high) in
    let at = c.index-elements-middle.is in
    record {
      in_order = omega (arith, c.next_guess-middle.ensures.low, c.next_guess-middle.ensures.high);
      within = omega (arith, c.loop-low.invariant.within, c.next_guess-middle.ensures.high);
      below = c.loop-low.invariant.below;
      above = above_from g.T.Keyed.order (g.Q.Probe.against c.args.key.now) (g.met.Q.Probe.probes c.args.key.now) xs i c.index-elements-middle.result l at c.requires (sym c.in-Less.ensures);
    }

pub returns-in-Equal : goal.returns-in-Equal
returns-in-Equal g c =
    let xs = c.args.elements.now in
    let i = c.next_guess-middle.result in
    let l : i < length xs = omega (arith, c.loop-low.invariant.within, c.next_guess-middle.ensures.high) in
    let key = g.Q.Probe.against c.args.key.now in
    let at = c.index-elements-middle.is in
    let split = split_at xs i c.index-elements-middle.result l at in
    record {
      within = l;
      element = c.index-elements-middle.result;
      is = split;
      ties = sym c.in-Equal.ensures;
      before = before_at g.T.Keyed.order key (g.met.Q.Probe.probes c.args.key.now) xs i c.index-elements-middle.result split c.requires (ap is_lt (sym c.in-Equal.ensures));
      after = after_at g.T.Keyed.order key (g.met.Q.Probe.probes c.args.key.now) xs i c.index-elements-middle.result split c.requires (ap is_gt (sym c.in-Equal.ensures));
    }
