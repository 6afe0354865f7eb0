use Rattle.std.proofs.Common.{◌≡◌, ◌∷◌, ◌++◌, [], arith, ap, sym, ◌∙◌}
use Rattle.mg_pages.specs.Order.{probe_from_total}
use Rattle.mg_pages.specs.Runs.{ended}
use Rattle.mg_pages.proofs.Lent.{empty_of_length, ended_below}
use Rattle.mg_pages.proofs.cursor.run_before_last.Goals as goal

pub returns : goal.returns
returns g c =
    let order = g.T.Keyed.order in
    let y = c.args.last.now in
    let pages = c.args.pages.now in
    let none : c.args.run.now ≡ [] = empty_of_length c.args.run.now (omega (arith, c.if-run-gt0.false)) in
    ap (λ us. ended order pages (us ++ y ∷ [])) none
    ∙ sym (ap (λ us. us ++ y ∷ []) (ended_below order g.met.T.Keyed.total (order y) (probe_from_total g.met.T.Keyed.total y) c.run_before.result.now pages c.run_before.ensures.run c.run_before.ensures.ascends))
