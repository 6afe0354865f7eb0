use Rattle.std.proofs.Common.{◌+◌, ◌<◌, ◌^◌, rules, arith, ap, sym, ◌∙◌}
use Rattle.std.proofs.Math.Facts.{Fits-of_lt}
use Rattle.mg_pages.specs.Subtree.{elements_of, levels_of}
use Rattle.mg_pages.specs.Tree.{node_elements, node_levels}
use Rattle.mg_pages.proofs.Counts.{count_cut, count_of_below}
use Rattle.mg_pages.proofs.Descent.{node_ascends, node_count, node_lower, node_within}
use Rattle.mg_pages.proofs.look.+count_below.Goals as goal

pub count_of-before-requires : goal.count_of-before-requires
count_of-before-requires g t c = omega (arith, count_cut c.args.children.now c.place-i.result, c.requires.few)

pub count_in_page-requires : goal.count_in_page-requires
count_in_page-requires g t c =
    node_ascends c.node_at.result.now c.args.children.now c.place-i.result c.node_at.ensures c.place-i.ensures.within c.deref.result.now (c.deref.ensures.value ∙ sym (ap node_elements c.in-Page.is)) g.T.Keyed.order c.requires.sorted

pub overflow_add-result : goal.overflow_add-result
overflow_add-result g t c =
    let xs = c.deref.result.now in
    let n = node_within c.node_at.result.now c.args.children.now c.place-i.result c.node_at.ensures c.place-i.ensures.within xs (c.deref.ensures.value ∙ sym (ap node_elements c.in-Page.is)) in
    let small : c.count_of-before.result + c.count_in_page.result < 2 ^ 64 = omega (arith, n, count_of_below (g.Q.Probe.against c.args.key.now) xs, c.count_of-before.ensures, c.count_in_page.ensures, c.requires.few) in
    Fits-of_lt small

pub count_below-requires : goal.count_below-requires
count_below-requires g t c κs within =
    let node = c.node_at.result.now in
    let ts = c.args.children.now in
    let us = c.deref-in-Level.result.now in
    let l = c.place-i.ensures.within in
    let own = ap elements_of c.deref-in-Level.ensures.value ∙ sym (ap node_elements c.in-Level.is) in
    let lower = node_lower node ts c.place-i.result c.node_at.ensures l us (ap levels_of c.deref-in-Level.ensures.value ∙ sym (ap node_levels c.in-Level.is)) in
    let rises = node_ascends node ts c.place-i.result c.node_at.ensures l (elements_of us) own g.T.Keyed.order c.requires.sorted in
    let n = node_within node ts c.place-i.result c.node_at.ensures l (elements_of us) own in
    (omega (arith, lower, c.decreases), (search rules, (search rules, (rises, omega (arith, n, c.requires.few)))))

pub overflow_add-result-in-Level : goal.overflow_add-result-in-Level
overflow_add-result-in-Level g t c =
    let xs = elements_of c.deref-in-Level.result.now in
    let n = node_within c.node_at.result.now c.args.children.now c.place-i.result c.node_at.ensures c.place-i.ensures.within xs (ap elements_of c.deref-in-Level.ensures.value ∙ sym (ap node_elements c.in-Level.is)) in
    let small : c.count_of-before.result + c.count_below.result < 2 ^ 64 = omega (arith, n, count_of_below (g.Q.Probe.against c.args.key.now) xs, c.count_of-before.ensures, c.count_below.ensures, c.requires.few) in
    Fits-of_lt small

pub returns-in-Page : goal.returns-in-Page
returns-in-Page g t c =
    let n = node_count c.node_at.result.now c.args.children.now c.place-i.result c.node_at.ensures c.place-i.ensures.within c.deref.result.now (c.deref.ensures.value ∙ sym (ap node_elements c.in-Page.is)) (g.Q.Probe.against c.args.key.now) c.place-i.ensures.below c.place-i.ensures.above in
    omega (arith, n, c.count_of-before.ensures, c.count_in_page.ensures)

pub returns-in-Level : goal.returns-in-Level
returns-in-Level g t c =
    let n = node_count c.node_at.result.now c.args.children.now c.place-i.result c.node_at.ensures c.place-i.ensures.within (elements_of c.deref-in-Level.result.now) (ap elements_of c.deref-in-Level.ensures.value ∙ sym (ap node_elements c.in-Level.is)) (g.Q.Probe.against c.args.key.now) c.place-i.ensures.below c.place-i.ensures.above in
    omega (arith, n, c.count_of-before.ensures, c.count_below.ensures)
