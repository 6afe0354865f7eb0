use Rattle.std.proofs.Common.{arith, ap, sym, ◌∙◌}
use Rattle.mg_pages.specs.Order.{above}
use Rattle.mg_pages.specs.Runs.{continued_after}
use Rattle.mg_pages.proofs.Levels.{only_one}
use Rattle.mg_pages.proofs.Lent.{continued_above}
use Rattle.mg_pages.specs.Order.{probe_from_total}
use Rattle.mg_pages.proofs.cursor.run_after_first.Goals as goal

pub returns : goal.returns
returns g c = λ x xs e.
    let run = c.args.run.now in
    let order = g.T.Keyed.order in
    let a = c.index-run-0.result in
    let one = only_one order run x a xs e (omega (arith, c.if-run-gt1.false)) c.index-run-0.is in
    continued_above order g.met.T.Keyed.total (order a) (probe_from_total g.met.T.Keyed.total a) c.run_after.result.now c.args.pages.now c.run_after.ensures.run c.run_after.ensures.ascends
    ∙ ap (λ b. above (order b) c.args.pages.now) one.1 ∙ sym (ap (continued_after order c.args.pages.now x) one.0)
