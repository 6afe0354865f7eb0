use Rattle.std.proofs.Common.{rules, arith, ap, sym, subst, ◌∙◌}
use Rattle.mg_pages.specs.Order.{below}
use Rattle.mg_pages.specs.Runs.{IsEndRun}
use Rattle.mg_pages.specs.Subtree.{elements_of, levels_of}
use Rattle.mg_pages.specs.Tree.{node_elements, node_levels}
use Rattle.mg_pages.proofs.Descent.{node_ascends, node_below, node_lower}
use Rattle.mg_pages.proofs.look.+run_before.Goals as goal

pub before_in_page-requires : goal.before_in_page-requires
before_in_page-requires g t c =
    node_ascends c.node_at.result.now c.args.children.now c.place-i.result c.node_at.ensures c.place-i.ensures.within c.deref.result.now (c.deref.ensures.value ∙ sym (ap node_elements c.in-Page.is)) g.T.Keyed.order c.requires

pub run_before-requires : goal.run_before-requires
run_before-requires g t c κs within =
    let node = c.node_at.result.now in
    let ts = c.args.children.now in
    let us = c.deref-in-Level.result.now in
    let l = c.place-i.ensures.within in
    let lower = node_lower node ts c.place-i.result c.node_at.ensures l us (ap levels_of c.deref-in-Level.ensures.value ∙ sym (ap node_levels c.in-Level.is)) in
    let rises = node_ascends node ts c.place-i.result c.node_at.ensures l (elements_of us) (ap elements_of c.deref-in-Level.ensures.value ∙ sym (ap node_elements c.in-Level.is)) g.T.Keyed.order c.requires in
    (omega (arith, lower, c.decreases), (search rules, (search rules, rises)))

pub returns-in-Page : goal.returns-in-Page
returns-in-Page g t c =
    let key = g.Q.Probe.against c.args.key.now in
    let xs = c.deref.result.now in
    let all = node_below c.node_at.result.now c.args.children.now c.place-i.result c.node_at.ensures c.place-i.ensures.within xs (c.deref.ensures.value ∙ sym (ap node_elements c.in-Page.is)) key c.place-i.ensures.below c.place-i.ensures.above in
    subst (IsEndRun c.run_or_last.result.now) (sym all) (c.run_or_last.ensures (below key xs) c.before_in_page.ensures)

pub returns-in-Level : goal.returns-in-Level
returns-in-Level g t c =
    let key = g.Q.Probe.against c.args.key.now in
    let xs = elements_of c.deref-in-Level.result.now in
    let all = node_below c.node_at.result.now c.args.children.now c.place-i.result c.node_at.ensures c.place-i.ensures.within xs (ap elements_of c.deref-in-Level.ensures.value ∙ sym (ap node_elements c.in-Level.is)) key c.place-i.ensures.below c.place-i.ensures.above in
    subst (IsEndRun c.run_or_last-in-Level.result.now) (sym all) (c.run_or_last-in-Level.ensures (below key xs) c.run_before.ensures)
