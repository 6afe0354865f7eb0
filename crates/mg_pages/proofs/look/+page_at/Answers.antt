use Rattle.std.proofs.Common.{◌<◌, length, refl, arith, ap, sym, ◌∙◌}
use Rattle.mg_pages.specs.Subtree.{elements_of}
use Rattle.mg_pages.specs.Tree.{node_elements}
use Rattle.mg_pages.proofs.Descent.{node_page}
use Rattle.mg_pages.proofs.Passed.{page_itself}
use Rattle.mg_pages.proofs.look.+page_at.Goals as goal

pub returns-in-Page : goal.returns-in-Page
returns-in-Page g t c =
    let at = c.child_at-i.ensures in
    let it = c.node_at.ensures in
    let left = c.child_at-i.result.1 in
    let xs = c.as_slice.result.now in
    let own = c.as_slice.ensures.value ∙ sym (ap node_elements c.in-Page.is) in
    let l : left < length xs = omega (arith, at.inside it.tree it.at, ap length (own ∙ it.elements)) in
    node_page c.node_at.result.now c.args.children.now c.child_at-i.result.0 it at.within xs own xs left left c.args.place at.at (page_itself xs xs left refl l)

pub returns-in-Level : goal.returns-in-Level
returns-in-Level g t c =
    let at = c.child_at-i.ensures in
    let us = c.deref.result.now in
    node_page c.node_at.result.now c.args.children.now c.child_at-i.result.0 c.node_at.ensures at.within (elements_of us) (ap elements_of c.deref.ensures.value ∙ sym (ap node_elements c.in-Level.is))
    c.page_at.result.0.now c.page_at.result.1 c.child_at-i.result.1 c.args.place at.at c.page_at.ensures
