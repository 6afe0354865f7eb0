use Rattle.std.proofs.Common.{◌-◌, ◌<◌, length, arith, ap, sym, ◌∙◌}
use Rattle.mg_pages.specs.Subtree.{elements_of}
use Rattle.mg_pages.specs.Tree.{node_elements}
use Rattle.mg_pages.proofs.Descent.{node_ends}
use Rattle.mg_pages.proofs.look.+last_run.Goals as goal

pub returns-in-Level : goal.returns-in-Level
returns-in-Level g t c =
    let ts = c.args.children.now in
    let i = length ts - 1 in
    let l : i < length ts = omega (arith, c.if-children-eq0.false) in
    node_ends c.node_at.result.now ts i c.node_at.ensures l (elements_of c.deref-in-Level.result.now) (ap elements_of c.deref-in-Level.ensures.value ∙ sym (ap node_elements c.in-Level.is)) (omega (arith, l)) c.last_run.result.now c.last_run.ensures
