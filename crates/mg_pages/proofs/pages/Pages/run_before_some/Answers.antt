use Rattle.std.proofs.Common.{◌≡◌, ◌-◌, ◌+◌, length, take, arith, ap, ◌∙◌, subst}
use Rattle.mg_pages.specs.Order.{Ascends, below}
use Rattle.mg_pages.specs.Runs.{IsEndRun, IsPageAt}
use Rattle.mg_pages.specs.Subtree.{elements_of}
use Rattle.mg_pages.proofs.Counts.{count_of_below}
use Rattle.mg_pages.proofs.Passed.{end_none, end_passed, end_within}
use Rattle.mg_pages.proofs.pages.Pages.run_before_some.Goals as goal

pub returns-then-count-next-clause-run : goal.returns-then-count-next-clause-run
returns-then-count-next-clause-run g c =
    let next = c.run_before-next.result.now in
    let ys = below (g.Q.Probe.against c.args.key.now) c.args.self.now in
    end_within next ys c.args.count c.run_before-next.ensures.run (omega (arith, c.if-count-next.true))

pub page_at-place-requires : goal.page_at-place-requires
page_at-place-requires g c =
    let n = count_of_below (g.Q.Probe.against c.args.key.now) c.args.self.now in
    let all = ap length c.self.view_is in
    let same = ap (λ ts. length (elements_of ts)) c.deref.ensures.value in
    omega (arith, n, all, same, c.count_below.ensures, c.saturating_sub-left.ensures, c.if-left-gt0.true)

pub returns-then-left-gt0-clause-run : goal.returns-then-left-gt0-clause-run
returns-then-left-gt0-clause-run g c =
    let order = g.T.Keyed.order in
    let key = g.Q.Probe.against c.args.key.now in
    let xs = c.args.self.now in
    let page = c.page_at-place.result.0.now in
    let place = c.page_at-place.result.1 in
    let low = below key xs in
    let left = c.saturating_sub-left.result in
    let is : left ≡ length low - c.args.count = omega (arith, c.count_below.ensures, c.saturating_sub-left.ensures) in
    let view = ap (λ ts. elements_of ts) c.deref.ensures.value ∙ c.self.view_is in
    let it = subst (λ us. IsPageAt page place (left - 1) us) view c.page_at-place.ensures in
    subst (λ k. IsEndRun (take (place + 1) page) (take k low)) is
    (end_passed order key (g.met.Q.Probe.probes c.args.key.now) page xs place left (subst (Ascends order) c.self.view_is c.self.invariant.sorted) c.if-left-gt0.true (omega (arith, is)) it)

pub returns-clause-run : goal.returns-clause-run
returns-clause-run g c =
    let low = below (g.Q.Probe.against c.args.key.now) c.args.self.now in
    end_none low (length low - c.args.count) (omega (arith, c.count_below.ensures, c.saturating_sub-left.ensures, c.if-left-gt0.false))
