use Rattle.std.proofs.Common.{◌-◌, length, reverse, arith, ap, ◌∙◌}
use Rattle.mg_pages.specs.Order.{below, probe_from_total}
use Rattle.mg_pages.proofs.Passed.{ended_before, ended_from, ended_none, ended_take}
use Rattle.mg_pages.proofs.cursor.run_before_skip.Goals as goal

pub returns-then-count-run : goal.returns-then-count-run
returns-then-count-run g c =
    let run = c.args.run.now in
    let order = g.T.Keyed.order in
    let pages = c.args.pages.now in
    let left = length run - c.args.count in
    ended_take order pages run left c.args.count (omega arith) (omega arith)

pub returns-then-run-gt0 : goal.returns-then-run-gt0
returns-then-run-gt0 g c =
    let run = c.args.run.now in
    let order = g.T.Keyed.order in
    let pages = c.args.pages.now in
    let total = g.met.T.Keyed.total in
    let a = c.index-run-0.result in
    let more = c.args.count - length run in
    let left = length (below (order a) pages) - more in
    ap reverse (ended_from order pages total (order a) (probe_from_total total a) c.run_before_some.result.now left c.run_before_some.ensures.run c.run_before_some.ensures.ascends)
    ∙ ended_before order pages run a c.args.count more (omega arith) c.index-run-0.is (omega arith)

pub returns : goal.returns
returns g c =
    ended_none g.T.Keyed.order c.args.pages.now c.args.run.now c.args.count (omega arith)
