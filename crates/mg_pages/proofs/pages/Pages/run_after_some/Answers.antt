use Rattle.std.proofs.Common.{◌-◌, drop, length, arith, ap, sym, ◌∙◌, subst}
use Rattle.std.proofs.lemmas.List.{take_rest}
use Rattle.mg_pages.specs.Order.{Ascends, above}
use Rattle.mg_pages.specs.Runs.{IsPageAt, IsRun}
use Rattle.mg_pages.specs.Subtree.{elements_of}
use Rattle.mg_pages.proofs.Counts.{count_over}
use Rattle.mg_pages.proofs.Passed.{run_none, run_passed, run_within}
use Rattle.mg_pages.proofs.pages.Pages.run_after_some.Goals as goal

pub returns-then-count-next-clause-run : goal.returns-then-count-next-clause-run
returns-then-count-next-clause-run g c =
    let key = g.Q.Probe.against c.args.key.now in
    let next = c.run_after-next.result.now in
    let ys = above key c.args.self.now in
    subst (λ us. IsRun us (drop c.args.count ys)) (sym (take_rest next c.args.count))
    (run_within next ys c.args.count c.run_after-next.ensures.run (omega (arith, c.if-count-next.true)))

pub overflow_sub-first : goal.overflow_sub-first
overflow_sub-first g c =
    let n = count_over (g.Q.Probe.against c.args.key.now) c.args.self.now in
    omega (arith, n, c.len.ensures, c.count_above.ensures, c.saturating_sub-left.ensures)

pub page_at-place-requires : goal.page_at-place-requires
page_at-place-requires g c =
    let n = count_over (g.Q.Probe.against c.args.key.now) c.args.self.now in
    let all = ap length c.self.view_is in
    let same = ap (λ ts. length (elements_of ts)) c.deref.ensures.value in
    omega (arith, n, all, same, c.len.ensures, c.count_above.ensures, c.saturating_sub-left.ensures, c.if-left-gt0.true)

pub returns-then-left-gt0-clause-run : goal.returns-then-left-gt0-clause-run
returns-then-left-gt0-clause-run g c =
    let order = g.T.Keyed.order in
    let key = g.Q.Probe.against c.args.key.now in
    let xs = c.args.self.now in
    let page = c.page_at-place.result.0.now in
    let place = c.page_at-place.result.1 in
    let first = c.len.result - c.saturating_sub-left.result in
    let view = ap (λ ts. elements_of ts) c.deref.ensures.value ∙ c.self.view_is in
    let it = subst (λ us. IsPageAt page place first us) view c.page_at-place.ensures in
    let n = count_over key xs in
    subst (λ us. IsRun us (drop c.args.count (above key xs))) (sym (take_rest page place))
    (run_passed order key (g.met.Q.Probe.probes c.args.key.now) page xs place c.args.count first (subst (Ascends order) c.self.view_is c.self.invariant.sorted)
    (omega (arith, n, c.len.ensures, c.count_above.ensures, c.saturating_sub-left.ensures)) (omega (arith, c.count_above.ensures, c.saturating_sub-left.ensures, c.if-left-gt0.true)) it)

pub returns-clause-run : goal.returns-clause-run
returns-clause-run g c =
    let key = g.Q.Probe.against c.args.key.now in
    run_none (above key c.args.self.now) c.args.count (omega (arith, c.count_above.ensures, c.saturating_sub-left.ensures, c.if-left-gt0.false))
