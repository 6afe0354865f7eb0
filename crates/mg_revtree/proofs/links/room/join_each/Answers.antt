use Rattle.std.proofs.Common.{◌+◌, ◌-◌, ◌<◌, ◌∙◌, ℕ, length, refl, sym, ap, subst, arith, append-nil, take, drop, get_or, option_map}
use Rattle.std.proofs.lemmas.List.{drop_all, get_or_default}
use Rattle.mg_revtree.specs.Nodes.{ParentWithin, text_of_part}
use Rattle.mg_revtree.specs.Revision.{Revision}
use Rattle.mg_revtree.specs.Room.{used}
use Rattle.mg_revtree.specs.declared.links.node.Node.{Node}
use Rattle.mg_revtree.specs.declared.links.node.IdPart.{IdPart}
use Rattle.mg_revtree.proofs.Rooms.{Goes, goes_first, goes_last, goes_on, got_within}
use Rattle.mg_revtree.proofs.Runs.{newest_got}
use Rattle.mg_revtree.proofs.Texts.{part-within}
use Rattle.mg_revtree.proofs.links.room.join_each.Goals as goal

pub loop-i-init : goal.loop-i-init
loop-i-init c =
    let ns = c.args.nodes.now in
    record {
      pos = omega arith;
      room = omega (arith, c.requires.room);
      inside = omega arith;
      goes = λ ls nodes. goes_first c.args.texts.now c.args.start c.args.parts.now ns c.args.known ls nodes;
      within = λ n h w. rw (drop_all (length ns) ns (omega arith), append-nil (take c.args.known ns)) h;
    }

pub loop-i-preserved : goal.loop-i-preserved
loop-i-preserved c =
    let t = c.args.texts.now in
    let ps = c.args.parts.now in
    let i = c.loop-i.i in
    let d : IdPart = record { from = 0; len = 0 } in
    let v = c.loop-i.invariant in
    let lt : i < length ps = c.loop-i-test.true in
    let x : Node = record { pos = c.loop-i.pos; id = get_or ps i d; parent = c.copied.result } in
    let got = c.get.ensures.lookup.3 in
    let newest = ap (option_map {U = Revision} (λ p. (c.loop-i.pos - 1, text_of_part t p))) c.copied.ensures ∙ newest_got (text_of_part t) (c.loop-i.pos - 1) ps (i + 1) c.get.result got in
    let down = c.saturating_sub-pos.ensures in
    record {
      pos = omega (arith, down, v.pos);
      room = omega (arith, c.join-room.ensures.left, v.room, lt);
      inside = omega (arith, c.join-room.ensures.from, v.inside, c.join-room.auto.nodes);
      goes = λ ls nodes. subst (λ (m : ℕ). Goes t c.args.start ps (i + 1) m (used c.join-room.new.nodes c.join-room.result.till c.join-room.result.from) (drop c.join-room.result.from c.join-room.new.nodes) ls) (sym down) (goes_on t c.args.start ps i c.loop-i.pos _ _ _ _ ls x (v.goes ls nodes) lt c.requires.run v.pos refl (get_or_default ps i d (get_or ps i d) lt) newest c.join-room.ensures.joins);
      within = λ n h w. c.join-room.ensures.within n (v.within n h w) (part-within n ps i d lt w, subst (ParentWithin n) (sym c.copied.ensures) (got_within n ps (i + 1) c.get.result got w));
    }

pub returns-clause-joined : goal.returns-clause-joined
returns-clause-joined c = λ ls nodes.
    goes_last c.args.texts.now c.args.start c.args.parts.now c.loop-i.i c.loop-i.pos _ _ ls (c.loop-i.invariant.goes ls nodes) (omega (arith, c.loop-i-test.false))
