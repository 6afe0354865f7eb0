use Rattle.std.proofs.Common.{◌+◌, ◌-◌, length, take, drop, sym, ◌∙◌}
use Rattle.std.proofs.lemmas.List.{take_rest}
use Rattle.mg_pages.specs.Order.{above}
use Rattle.mg_pages.specs.Search.{IsTie, BelongsAt}
use Rattle.mg_pages.proofs.Sorted.{above_gap, above_tie}
use Rattle.mg_pages.proofs.Lent.{run_whole}
use Rattle.mg_pages.proofs.page.after_in_page.Goals as goal

pub returns-in-Ok : goal.returns-in-Ok
returns-in-Ok g c =
    let xs = c.args.elements.now in
    let key = g.Q.Probe.against c.args.key.now in
    let k = c.in-Ok.i + 1 in
    let tie : IsTie key xs c.in-Ok.i = c.in-Ok.ensures in
    run_whole (take (length xs - k) (drop k xs)) (above key xs)
    (take_rest xs k ∙ sym (above_tie key xs c.in-Ok.i tie))

pub returns-in-Err : goal.returns-in-Err
returns-in-Err g c =
    let xs = c.args.elements.now in
    let key = g.Q.Probe.against c.args.key.now in
    let k = c.in-Err.i in
    let gap : BelongsAt key xs k = c.in-Err.ensures in
    run_whole (take (length xs - k) (drop k xs)) (above key xs)
    (take_rest xs k ∙ sym (above_gap key xs k gap))
