use Rattle.std.proofs.Common.{is_some, ap, sym, ◌∙◌}
use Rattle.mg_pages.specs.Search.{IsTie, BelongsAt}
use Rattle.mg_pages.proofs.Sorted.{found_gap, found_tie, inserted_gap, inserted_tie, set_is}
use Rattle.mg_pages.proofs.page.put_in_page.Goals as goal

pub returns-in-Ok-clause-ok : goal.returns-in-Ok-clause-ok
returns-in-Ok-clause-ok g c =
    let xs = c.args.elements.now.items in
    let x = c.args.element in
    let tie : IsTie (g.T.Keyed.order x) xs c.in-Ok.i = rw c.deref.ensures.value at c.in-Ok.ensures in
    set_is xs c.in-Ok.i x tie.within ∙ sym (inserted_tie g.T.Keyed.order x xs c.in-Ok.i tie)

pub returns-in_ok-insert_at-in-Err-clause-ok : goal.returns-in_ok-insert_at-in-Err-clause-ok
returns-in_ok-insert_at-in-Err-clause-ok g c =
    let xs = c.args.elements.now.items in
    let x = c.args.element in
    let gap : BelongsAt (g.T.Keyed.order x) xs c.in-Err.i = rw c.deref.ensures.value at c.in-Err.ensures in
    c.in_ok-insert_at-in-Err.ensures.ok ∙ sym (inserted_gap g.T.Keyed.order x xs c.in-Err.i gap)

pub returns-in-Ok-clause-had : goal.returns-in-Ok-clause-had
returns-in-Ok-clause-had g c =
    let xs = c.args.elements.now.items in
    let key = g.T.Keyed.order c.args.element in
    let tie : IsTie key xs c.in-Ok.i = rw c.deref.ensures.value at c.in-Ok.ensures in
    sym (ap is_some (found_tie key xs c.in-Ok.i tie))

pub returns-in_ok-insert_at-in-Err-clause-had : goal.returns-in_ok-insert_at-in-Err-clause-had
returns-in_ok-insert_at-in-Err-clause-had g c =
    let xs = c.args.elements.now.items in
    let key = g.T.Keyed.order c.args.element in
    let gap : BelongsAt key xs c.in-Err.i = rw c.deref.ensures.value at c.in-Err.ensures in
    sym (ap is_some (found_gap key xs c.in-Err.i gap))
