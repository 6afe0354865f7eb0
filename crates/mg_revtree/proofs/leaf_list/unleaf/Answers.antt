use Rattle.std.proofs.Common.{◌≡◌, ◌∙◌, ◌+◌, ◌-◌, ◌≤◌, ℕ, List, drop, filter, map, not, string_bytes, sym, ap, subst, arith}
use Rattle.mg_revtree.specs.Revision.{Revision, run_from, same_revision}
use Rattle.mg_revtree.specs.History.{Leaf, has_child, links}
use Rattle.mg_revtree.specs.Tree.{AreApart, AreRanked}
use Rattle.mg_revtree.proofs.Leaves.{apart-filter}
use Rattle.mg_revtree.proofs.Places.{parents_at, parents_done}
use Rattle.mg_revtree.proofs.Ranks.{are_ranked-filter}
use Rattle.mg_revtree.proofs.leaf_list.unleaf.Goals as goal

pub loop-i-preserved : goal.loop-i-preserved
loop-i-preserved c =
    let ids = c.args.ids.now in
    let i = c.loop-i.i in
    let n = c.loop-i.pos in
    let x = c.index-ids-i.result in
    let ls = c.loop-i.leaves.items in
    let new = c.take_away.new.leaves.items in
    let down = c.saturating_sub-pos.ensures in
    let some : 1 ≤ i = c.loop-i.auto.i in
    record {
      kept = λ ranked apart.
          let v = c.loop-i.invariant.kept ranked apart in
          let pair = λ (m : ℕ) (s : List ℕ). (let q : Revision = (m, s) in q) in
          let same = ap (λ (m : ℕ). pair m c.as_bytes.result.now) down ∙ ap (pair (n - 1)) c.as_bytes.ensures.value in
          let away : new ≡ filter (λ l. not (same_revision l.rev (n - 1, string_bytes x))) ls = c.take_away.ensures.kept v.0 v.1 ∙ ap (λ (q : Revision). filter (λ l. not (same_revision l.rev q)) ls) same in
          let up : i ≡ i + 1 - 1 = omega arith in (
            subst AreRanked (sym away) (are_ranked-filter (λ l. not (same_revision l.rev (n - 1, string_bytes x))) ls v.0),
            subst AreApart (sym away) (apart-filter (λ l. not (same_revision l.rev (n - 1, string_bytes x))) ls v.1),
            v.2
                ∙ parents_at string_bytes n i ids x ls some c.loop-i-test.true c.index-ids-i.is
                ∙ ap (filter (λ (l : Leaf). not (has_child l.rev (links (run_from (n - 1) (map string_bytes (drop i ids))))))) (sym away)
                ∙ ap (λ (m : ℕ). filter (λ (l : Leaf). not (has_child l.rev (links (run_from m (map string_bytes (drop i ids)))))) new) (sym down)
                ∙ ap (λ (k : ℕ). filter (λ (l : Leaf). not (has_child l.rev (links (run_from c.saturating_sub-pos.result (map string_bytes (drop k ids)))))) new) up,
          );
      capacity = c.take_away.ensures.capacity ∙ c.loop-i.invariant.capacity;
      len = omega (arith, c.take_away.ensures.len, c.loop-i.invariant.len);
    }

pub returns-clause-kept : goal.returns-clause-kept
returns-clause-kept c = λ ranked apart.
    let v = c.loop-i.invariant.kept ranked apart in
    sym (v.2 ∙ parents_done string_bytes c.loop-i.pos c.loop-i.i c.args.ids.now c.loop-i.leaves.items c.loop-i.auto.i c.loop-i-test.false)
