use Rattle.std.proofs.Common.{length, arith, ap, ◌∙◌}
use Rattle.mg_pages.proofs.Counts.{count_over}
use Rattle.mg_pages.proofs.pages.Pages.count_above.Goals as goal

pub overflow_sub-result : goal.overflow_sub-result
overflow_sub-result g c =
    let n = count_over (g.Q.Probe.against c.args.key.now) c.args.self.now in
    let all = c.self.invariant.counted ∙ ap length c.self.view_is in
    omega (arith, n, all, c.count_below.ensures)

pub returns : goal.returns
returns g c =
    let n = count_over (g.Q.Probe.against c.args.key.now) c.args.self.now in
    let all = c.self.invariant.counted ∙ ap length c.self.view_is in
    omega (arith, n, all, c.count_below.ensures)
