use Rattle.std.proofs.Common.{◌≡◌, ◌-◌, Some, length, slice_get, sym, ap, ◌∙◌, arith}
use Rattle.std.proofs.lemmas.Option.{slice_get-get_or}
use Rattle.mg_collate.specs.declared.direction.Direction.TheVariants.{Asc, Desc}
use Rattle.mg_pages.specs.Reading.{left_of}
use Rattle.mg_pages.proofs.Between.{left_none}
use Rattle.mg_pages.proofs.Ends.{continued_at, ended_at}
use Rattle.mg_pages.proofs.cursor.Cursor.run_end.Goals as goal

pub returns-then-run-eq0 : goal.returns-then-run-eq0
returns-then-run-eq0 g c =
    let it = c.self.inside in
    sym c.self.view_is ∙ left_none g.T.Keyed.order it.direction it.pages.now it.run.now (omega arith)

pub returns-in-Asc : goal.returns-in-Asc
returns-in-Asc g c =
    let order = g.T.Keyed.order in
    let it = c.self.inside in
    let run = it.run.now in
    let place = length run - 1 in
    let x = c.index-run-place.result in
    let at : slice_get run place ≡ Some x = slice_get-get_or run place x (omega arith) ∙ ap Some (sym c.index-run-place.is) in
    let seen : left_of order Asc it.pages.now run ≡ c.args.self.now = ap (λ d. left_of order d it.pages.now run) (sym c.in-Asc.is) ∙ c.self.view_is in
    rw (← seen) (continued_at order it.pages.now run place x at)

pub returns-in-Desc : goal.returns-in-Desc
returns-in-Desc g c =
    let order = g.T.Keyed.order in
    let it = c.self.inside in
    let run = it.run.now in
    let seen : left_of order Desc it.pages.now run ≡ c.args.self.now = ap (λ d. left_of order d it.pages.now run) (sym c.in-Desc.is) ∙ c.self.view_is in
    rw (← seen) (ended_at order it.pages.now run (length run - 1) c.index-run-0.result (omega arith) c.index-run-0.is)
