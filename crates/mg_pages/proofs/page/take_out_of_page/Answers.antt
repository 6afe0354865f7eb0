use Rattle.std.proofs.Common.{sym, ◌∙◌}
use Rattle.mg_pages.specs.Search.{IsTie, BelongsAt}
use Rattle.mg_pages.proofs.Sorted.{removed_gap, removed_tie}
use Rattle.mg_pages.proofs.Levels.{removed_one}
use Rattle.mg_pages.proofs.page.take_out_of_page.Goals as goal

pub returns-in-Ok : goal.returns-in-Ok
returns-in-Ok g c =
    let xs = c.args.elements.now.items in
    let key = g.Q.Probe.against c.args.key.now in
    let tie : IsTie key xs c.in-Ok.i = rw c.deref.ensures.value at c.in-Ok.ensures in
    c.remove.ensures.items ∙ removed_one xs c.in-Ok.i ∙ sym (removed_tie key xs c.in-Ok.i tie)

pub returns-in-Err : goal.returns-in-Err
returns-in-Err g c =
    let xs = c.args.elements.now.items in
    let key = g.Q.Probe.against c.args.key.now in
    let gap : BelongsAt key xs c.in-Err.field-0 = rw c.deref.ensures.value at c.in-Err.ensures in
    sym (removed_gap key xs c.in-Err.field-0 gap)
