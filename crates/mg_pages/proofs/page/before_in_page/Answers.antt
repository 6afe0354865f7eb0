use Rattle.std.proofs.Common.{take, sym}
use Rattle.mg_pages.specs.Order.{below}
use Rattle.mg_pages.specs.Search.{IsTie, BelongsAt}
use Rattle.mg_pages.proofs.Sorted.{below_gap, below_tie}
use Rattle.mg_pages.proofs.Lent.{end_whole}
use Rattle.mg_pages.proofs.page.before_in_page.Goals as goal

pub returns-in-Ok : goal.returns-in-Ok
returns-in-Ok g c =
    let xs = c.args.elements.now in
    let key = g.Q.Probe.against c.args.key.now in
    let k = c.in-Ok.i in
    let tie : IsTie key xs k = c.in-Ok.ensures in
    end_whole (take k xs) (below key xs)
    (sym (below_tie key xs k tie))

pub returns-in-Err : goal.returns-in-Err
returns-in-Err g c =
    let xs = c.args.elements.now in
    let key = g.Q.Probe.against c.args.key.now in
    let k = c.in-Err.i in
    let gap : BelongsAt key xs k = c.in-Err.ensures in
    end_whole (take k xs) (below key xs)
    (sym (below_gap key xs k gap))
