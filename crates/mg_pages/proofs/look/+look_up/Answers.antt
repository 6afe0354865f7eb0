use Rattle.std.proofs.Common.{rules, arith, ap, sym, ◌∙◌}
use Rattle.mg_pages.specs.Subtree.{elements_of, levels_of}
use Rattle.mg_pages.specs.Tree.{node_elements, node_levels}
use Rattle.mg_pages.proofs.Descent.{node_ascends, node_found, node_lower}
use Rattle.mg_pages.proofs.look.+look_up.Goals as goal

pub find_in_page-requires : goal.find_in_page-requires
find_in_page-requires g t c =
    node_ascends c.node_at.result.now c.args.children.now c.place-i.result c.node_at.ensures c.place-i.ensures.within c.deref.result.now (c.deref.ensures.value ∙ sym (ap node_elements c.in-Page.is)) g.T.Keyed.order c.requires

pub look_up-requires : goal.look_up-requires
look_up-requires g t c κs within =
    let node = c.node_at.result.now in
    let ts = c.args.children.now in
    let us = c.deref-in-Level.result.now in
    let l = c.place-i.ensures.within in
    let lower = node_lower node ts c.place-i.result c.node_at.ensures l us (ap levels_of c.deref-in-Level.ensures.value ∙ sym (ap node_levels c.in-Level.is)) in
    let rises = node_ascends node ts c.place-i.result c.node_at.ensures l (elements_of us) (ap elements_of c.deref-in-Level.ensures.value ∙ sym (ap node_elements c.in-Level.is)) g.T.Keyed.order c.requires in
    (omega (arith, lower, c.decreases), (search rules, (search rules, rises)))

pub returns-in-Page : goal.returns-in-Page
returns-in-Page g t c =
    c.find_in_page.ensures
    ∙ node_found c.node_at.result.now c.args.children.now c.place-i.result c.node_at.ensures c.place-i.ensures.within c.deref.result.now (c.deref.ensures.value ∙ sym (ap node_elements c.in-Page.is)) (g.Q.Probe.against c.args.key.now) c.place-i.ensures.below c.place-i.ensures.above

pub returns-in-Level : goal.returns-in-Level
returns-in-Level g t c =
    c.look_up.ensures
    ∙ node_found c.node_at.result.now c.args.children.now c.place-i.result c.node_at.ensures c.place-i.ensures.within (elements_of c.deref-in-Level.result.now) (ap elements_of c.deref-in-Level.ensures.value ∙ sym (ap node_elements c.in-Level.is)) (g.Q.Probe.against c.args.key.now) c.place-i.ensures.below c.place-i.ensures.above
