use Rattle.std.proofs.Common.{length, arith, ap}
use Rattle.std.proofs.lemmas.List.{length-take}
use Rattle.mg_pages.specs.Search.{IsTie, BelongsAt}
use Rattle.mg_pages.proofs.Sorted.{below_gap, below_tie}
use Rattle.mg_pages.proofs.page.count_in_page.Goals as goal

pub returns-in-Ok : goal.returns-in-Ok
returns-in-Ok g c =
    let xs = c.args.elements.now in
    let key = g.Q.Probe.against c.args.key.now in
    let tie : IsTie key xs c.in-Ok.i = c.in-Ok.ensures in
    omega (arith, ap length (below_tie key xs c.in-Ok.i tie), length-take c.in-Ok.i xs, tie.within)

pub returns-in-Err : goal.returns-in-Err
returns-in-Err g c =
    let xs = c.args.elements.now in
    let key = g.Q.Probe.against c.args.key.now in
    let gap : BelongsAt key xs c.in-Err.i = c.in-Err.ensures in
    omega (arith, ap length (below_gap key xs c.in-Err.i gap), length-take c.in-Err.i xs, gap.within)
