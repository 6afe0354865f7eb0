use Rattle.std.proofs.Common.{Some, ap, sym, ◌∙◌}
use Rattle.mg_pages.specs.Search.{IsTie, BelongsAt}
use Rattle.mg_pages.proofs.Sorted.{found_gap, found_tie}
use Rattle.mg_pages.proofs.Levels.{tie_at}
use Rattle.mg_pages.proofs.page.find_in_page.Goals as goal

pub returns-in-Ok : goal.returns-in-Ok
returns-in-Ok g c =
    let xs = c.args.elements.now in
    let key = g.Q.Probe.against c.args.key.now in
    let tie : IsTie key xs c.in-Ok.i = c.in-Ok.ensures in
    ap Some (tie_at key xs c.in-Ok.i c.index-elements-i.result tie c.index-elements-i.is) ∙ sym (found_tie key xs c.in-Ok.i tie)

pub returns-in-Err : goal.returns-in-Err
returns-in-Err g c =
    let xs = c.args.elements.now in
    let key = g.Q.Probe.against c.args.key.now in
    let gap : BelongsAt key xs c.in-Err.field-0 = c.in-Err.ensures in
    sym (found_gap key xs c.in-Err.field-0 gap)
