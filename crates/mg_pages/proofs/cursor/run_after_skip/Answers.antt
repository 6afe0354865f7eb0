use Rattle.std.proofs.Common.{◌-◌, length, arith, ap, ◌∙◌}
use Rattle.std.proofs.lemmas.List.{take_rest}
use Rattle.mg_pages.specs.Order.{probe_from_total}
use Rattle.mg_pages.specs.Runs.{continued}
use Rattle.mg_pages.proofs.Lasts.{last_at}
use Rattle.mg_pages.proofs.Passed.{continued_behind, continued_drop, continued_from, continued_none}
use Rattle.mg_pages.proofs.cursor.run_after_skip.Goals as goal

pub returns-then-count-run : goal.returns-then-count-run
returns-then-count-run g c =
    let run = c.args.run.now in
    let order = g.T.Keyed.order in
    let pages = c.args.pages.now in
    let k = c.args.count in
    ap (continued order pages) (take_rest run k) ∙ continued_drop order pages run k (omega arith)

pub returns-then-run-gt0 : goal.returns-then-run-gt0
returns-then-run-gt0 g c =
    let run = c.args.run.now in
    let order = g.T.Keyed.order in
    let pages = c.args.pages.now in
    let total = g.met.T.Keyed.total in
    let a = c.index-run-last.result in
    let more = c.args.count - length run in
    let it = last_at run a (omega arith) c.index-run-last.is in
    continued_from order pages total (order a) (probe_from_total total a) c.run_after_some.result.now more c.run_after_some.ensures.run c.run_after_some.ensures.ascends
    ∙ continued_behind order pages run a c.args.count more it (omega arith)

pub returns : goal.returns
returns g c =
    continued_none g.T.Keyed.order c.args.pages.now c.args.run.now c.args.count (omega arith)
