use Rattle.std.proofs.Common.{ℕ, length, map, sym, subst, List, None}
use Rattle.mg_revtree.specs.Tree.{AreSorted}
use Rattle.mg_revtree.specs.Nodes.{link_in}
use Rattle.mg_revtree.specs.Steps.{IsLinkAt}
use Rattle.mg_revtree.specs.declared.links.node.Node.{Node}
use Rattle.mg_revtree.proofs.Texts.{node-within, part_at}
use Rattle.mg_revtree.proofs.links.fold.part_among.Goals as goal

pub returns-in-Ok-clause-within : goal.returns-in-Ok-clause-within
returns-in-Ok-clause-within c = λ within _.
    let d : Node = record { pos = 0; id = record { from = 0; len = 0 }; parent = None } in
    (node-within (length c.args.texts.now.items) c.args.older.now c.in-Ok.at d c.in-Ok.ensures.found.0 within).0

pub returns-in-Ok-clause-part : goal.returns-in-Ok-clause-part
returns-in-Ok-clause-part c = λ sorted _.
    let t = c.args.texts.now.items in
    let ns = c.args.older.now in
    let e = c.deref.ensures.value in
    let d : Node = record { pos = 0; id = record { from = 0; len = 0 }; parent = None } in
    let place : IsLinkAt (c.args.pos, c.args.id.now) (map (link_in t) ns) c.in-Ok.at = subst (λ (x : List ℕ). IsLinkAt (c.args.pos, c.args.id.now) (map (link_in x) ns) c.in-Ok.at) e (c.in-Ok.ensures.found.1 (subst (λ (x : List ℕ). AreSorted (map (link_in x) ns)) (sym e) sorted)) in
    part_at t (c.args.pos, c.args.id.now) ns c.in-Ok.at d c.in-Ok.ensures.found.0 place
