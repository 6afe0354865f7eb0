use Rattle.std.proofs.Common.{◌≡◌, length, is_lt, false, arith, ap, sym, ◌∙◌, subst}
use Rattle.mg_pages.specs.Order.{removed, below}
use Rattle.mg_pages.specs.Subtree.{IsLast}
use Rattle.mg_pages.proofs.Sorted.{less_from_test}
use Rattle.mg_pages.proofs.Lasts.{removed_below_last, removed_at_last, removed_run_last, removed_run_none}
use Rattle.mg_pages.proofs.removal.last_without.Goals as goal

pub returns-then-is_lt : goal.returns-then-is_lt
returns-then-is_lt g c = λ n.
    let key = g.Q.Probe.against c.args.key.now in
    let xs = c.args.tree.now.elements in
    let l = c.last-last.result.now in
    let lt = less_from_test (key l) (sym (c.is_lt.ensures ∙ ap is_lt c.against.ensures) ∙ c.if-is_lt.true) in
    subst (λ x. IsLast x (removed key xs)) (sym c.in_ok-kept.ensures) (removed_below_last key l xs c.last-last.ensures lt)

pub returns-then-run-gt0 : goal.returns-then-run-gt0
returns-then-run-gt0 g c = λ n.
    let key = g.Q.Probe.against c.args.key.now in
    let xs = c.args.tree.now.elements in
    let l = c.last-last.result.now in
    let not : is_lt (key l) ≡ false = sym (c.is_lt.ensures ∙ ap is_lt c.against.ensures) ∙ c.if-is_lt.false in
    let rest = removed_at_last key l xs c.last-last.ensures g.T.Keyed.order (g.met.Q.Probe.probes c.args.key.now) c.requires not in
    subst (λ x. IsLast x (removed key xs)) (sym c.in_ok-kept-2.ensures)
    (removed_run_last (removed key xs) (below key xs) c.run_before_in-run.result.now c.index-run-run.result rest c.run_before_in-run.ensures (omega (arith, c.if-run-gt0.true)) c.index-run-run.is)

pub returns : goal.returns
returns g c = λ n.
    let key = g.Q.Probe.against c.args.key.now in
    let xs = c.args.tree.now.elements in
    let l = c.last-last.result.now in
    let not : is_lt (key l) ≡ false = sym (c.is_lt.ensures ∙ ap is_lt c.against.ensures) ∙ c.if-is_lt.false in
    let rest = removed_at_last key l xs c.last-last.ensures g.T.Keyed.order (g.met.Q.Probe.probes c.args.key.now) c.requires not in
    let none = ap length (removed_run_none (removed key xs) (below key xs) c.run_before_in-run.result.now rest c.run_before_in-run.ensures (omega (arith, c.if-run-gt0.false))) in
    absurd (omega (arith, n, none))
