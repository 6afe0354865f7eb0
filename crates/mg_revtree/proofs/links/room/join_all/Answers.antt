use Rattle.std.proofs.Common.{◌≡◌, ◌∙◌, ◌+◌, ◌++◌, List, length, map, sym, ap, subst, take, arith}
use Rattle.std.proofs.Math.Seq.{take_at}
use Rattle.std.proofs.lemmas.Grind.{common_steps}
use Rattle.mg_revtree.specs.Revision.{run_from}
use Rattle.mg_revtree.specs.History.{links}
use Rattle.mg_revtree.specs.Tree.{AreKnownLinks}
use Rattle.mg_revtree.specs.Nodes.{NodesWithin, links_in, text_of_part}
use Rattle.mg_revtree.specs.Room.{used}
use Rattle.mg_revtree.specs.declared.links.node.Node.{Node}
use Rattle.mg_revtree.proofs.Rooms.{resized}
use Rattle.mg_revtree.proofs.links.room.join_all.Goals as goal

pub returns-clause-joined : goal.returns-clause-joined
returns-clause-joined c = λ ls nodes.
    let t = c.args.texts.now in
    let ns = c.args.nodes.now.items in
    let room = c.join_each-room.result in
    let known : c.len-known.result ≡ length ns = grind (arith, common_steps, c.len-known.ensures) in
    let before : take c.len-known.result c.deref_mut.result.now ≡ ns = ap (take c.len-known.result) c.deref_mut.ensures.value ∙ resized ns c.len-known.result (c.len-known.result + length c.args.parts.now) _ _ c.resize.result known (omega arith) c.resize.ensures.items in
    let long : length c.join_each-room.new.nodes ≡ c.resize.new.self.len = omega (arith, c.join_each-room.auto.nodes, c.deref_mut.ensures.len) in
    subst (λ (ys : List Node). AreKnownLinks (links_in t ys) (ls ++ links (run_from c.args.start (map (text_of_part t) c.args.parts.now)))) (sym (c.close.ensures ∙ ap (λ (ys : List Node). used ys room.till room.from) (take_at _ _ _ long))) (c.join_each-room.ensures.joined ls (subst (λ (ys : List Node). AreKnownLinks (links_in t ys) ls) (sym before) nodes))

pub returns-clause-within : goal.returns-clause-within
returns-clause-within c = λ n h w.
    let ns = c.args.nodes.now.items in
    let room = c.join_each-room.result in
    let known : c.len-known.result ≡ length ns = grind (arith, common_steps, c.len-known.ensures) in
    let before : take c.len-known.result c.deref_mut.result.now ≡ ns = ap (take c.len-known.result) c.deref_mut.ensures.value ∙ resized ns c.len-known.result (c.len-known.result + length c.args.parts.now) _ _ c.resize.result known (omega arith) c.resize.ensures.items in
    let long : length c.join_each-room.new.nodes ≡ c.resize.new.self.len = omega (arith, c.join_each-room.auto.nodes, c.deref_mut.ensures.len) in
    subst (NodesWithin n) (sym (c.close.ensures ∙ ap (λ (ys : List Node). used ys room.till room.from) (take_at _ _ _ long))) (c.join_each-room.ensures.within n (subst (NodesWithin n) (sym before) h) w)
