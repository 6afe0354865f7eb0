use Rattle.std.proofs.Common.{ℕ, List, map, refl, subst, take, arith, None}
use Rattle.mg_revtree.specs.Tree.{AreSorted}
use Rattle.mg_revtree.specs.Nodes.{link_in}
use Rattle.mg_revtree.specs.Room.{used}
use Rattle.mg_revtree.specs.Steps.{IsLinkAt, BelongsAt}
use Rattle.mg_revtree.specs.declared.links.node.Node.{Node}
use Rattle.mg_revtree.proofs.Rooms.{joins_known, joins_put, within_known}
use Rattle.mg_revtree.proofs.Texts.{within-insert}
use Rattle.mg_revtree.proofs.links.room.join.Goals as goal

pub returns-in-Ok-clause-joins : goal.returns-in-Ok-clause-joins
returns-in-Ok-clause-joins c = λ sorted above.
    let t = c.args.texts.now in
    let ns = c.args.nodes.now in
    let x = c.args.node in
    let d : Node = record { pos = 0; id = record { from = 0; len = 0 }; parent = None } in
    let place = λ (s : AreSorted (map (link_in t) (take c.args.room.till ns))). subst (λ (k : List ℕ). IsLinkAt (x.pos, k) (map (link_in t) (take c.args.room.till ns)) c.in-Ok.at) c.of.ensures (c.in-Ok.ensures.found.1 s) in
    joins_known t x ns c.args.room.till c.args.room.from c.in-Ok.at d _ c.join.new.self (omega (arith, c.requires.room)) c.in-Ok.ensures.found.0 refl c.join.ensures place sorted above

pub returns-in-Ok-clause-within : goal.returns-in-Ok-clause-within
returns-in-Ok-clause-within c = λ n h w.
    let d : Node = record { pos = 0; id = record { from = 0; len = 0 }; parent = None } in
    within_known c.args.texts.now c.args.node c.args.nodes.now c.args.room.till c.args.room.from c.in-Ok.at d _ c.join.new.self (omega (arith, c.requires.room)) c.in-Ok.ensures.found.0 refl c.join.ensures n h w

pub returns-in-Err-clause-joins : goal.returns-in-Err-clause-joins
returns-in-Err-clause-joins c = λ sorted above.
    let t = c.args.texts.now in
    let ns = c.args.nodes.now in
    let x = c.args.node in
    let gap = λ (s : AreSorted (map (link_in t) (take c.args.room.till ns))). subst (λ (k : List ℕ). BelongsAt (x.pos, k) (map (link_in t) (take c.args.room.till ns)) c.in-Err.at) c.of.ensures (c.in-Err.ensures.absent.1 s) in
    joins_put t x ns c.args.room.till c.args.room.from c.in-Err.at _ _ gap c.put.ensures.used c.put.ensures.after sorted above

pub returns-in-Err-clause-within : goal.returns-in-Err-clause-within
returns-in-Err-clause-within c = λ n h w.
    rw (c.put.ensures.used) (within-insert n (used c.args.nodes.now c.args.room.till c.args.room.from) c.in-Err.at c.args.node w h)
