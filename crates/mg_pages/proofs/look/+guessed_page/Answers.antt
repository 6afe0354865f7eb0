use Rattle.std.proofs.Common.{◌<◌, length, arith, ap, refl, sym, ◌∙◌}
use Rattle.mg_pages.specs.Subtree.{elements_of}
use Rattle.mg_pages.specs.Tree.{node_elements}
use Rattle.mg_pages.proofs.Descent.{node_piece}
use Rattle.mg_pages.proofs.Pieces.{piece_itself}
use Rattle.mg_pages.proofs.look.+guessed_page.Goals as goal

pub returns-in-Page : goal.returns-in-Page
returns-in-Page g t c =
    let xs = c.deref.result.now in
    let ts = c.args.children.now in
    let l : c.min-i.result < length ts = omega (arith, c.min-i.ensures, c.if-children-eq0.false) in
    node_piece c.node_at.result.now ts c.min-i.result c.node_at.ensures l xs (c.deref.ensures.value ∙ sym (ap node_elements c.in-Page.is)) xs (piece_itself xs xs refl)

pub returns-in-Level : goal.returns-in-Level
returns-in-Level g t c =
    let ts = c.args.children.now in
    let l : c.min-i.result < length ts = omega (arith, c.min-i.ensures, c.if-children-eq0.false) in
    node_piece c.node_at.result.now ts c.min-i.result c.node_at.ensures l (elements_of c.deref-in-Level.result.now) (ap elements_of c.deref-in-Level.ensures.value ∙ sym (ap node_elements c.in-Level.is)) c.guessed_page.result.now c.guessed_page.ensures
