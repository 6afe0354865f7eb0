use Rattle.std.proofs.Common.{◌≡◌, ◌∙◌, ◌++◌, ◌-◌, ℕ, List, None, ap, arith, drop, length, length-drop, map, subst, sym, take}
use Rattle.std.proofs.lemmas.List.{take_all}
use Rattle.std.specs.declared.cmp.Ordering.TheVariants.{Less}
use Rattle.mg_revtree.specs.Revision.{Revision, revision_order}
use Rattle.mg_revtree.specs.Tree.{AreSorted}
use Rattle.mg_revtree.specs.Nodes.{NodesWithin, link_in}
use Rattle.mg_revtree.specs.Known.{AreBelow, with_link}
use Rattle.mg_revtree.specs.declared.links.node.Node.{Node}
use Rattle.mg_revtree.proofs.Folds.{below_next, links_next, made_sorted, older_sorted, rest_sorted, within-append, within-drop}
use Rattle.mg_revtree.proofs.Texts.{grown-grown, grown-length, within-more}
use Rattle.mg_revtree.proofs.links.fold.fold_links.Goals as goal

pub loop-node-preserved : goal.loop-node-preserved
loop-node-preserved c =
    let t0 = c.args.texts.now.items in
    let t = c.loop-node.texts.items in
    let t' = c.node_for.new.texts.items in
    let other = c.args.other.now in
    let older = c.args.older.now in
    let newer = c.args.newer.now in
    let made = c.loop-node.made.items in
    let new = c.add_through.new.made.items in
    let from = c.loop-node.from in
    let at = c.loop-node.node-index in
    let i = c.loop-node.invariant in
    let x = c.in_ok-copy.copy in
    let n = c.in_ok-from.field-0 in
    let lt = c.loop-node-test.true in
    let e = c.deref.ensures.value in
    let f = c.deref-in-loop-node.ensures.value in
    let grows = c.in_ok-copy.ensures.grows in
    let d : Node = record { pos = 0; id = record { from = 0; len = 0 }; parent = None } in
    let older_at = λ (w : NodesWithin (length t0) older). within-more (length t0) (length t) (grown-length t0 t i.grows) older w in
    let made_at = λ (w : NodesWithin (length t0) older). subst (NodesWithin (length t)) (sym e) (i.within w) in
    let link = λ (w : NodesWithin (length t0) older) (s : AreSorted (map (link_in t0) older)) (k : AreSorted (map (link_in other) newer)).
    c.in_ok-copy.ensures.link (older_at w) (made_at w) (older_sorted t0 t t' other i.grows grows older made newer from at w (i.within w) s (i.links w s k)) (subst (λ (ns : List Node). AreSorted (map (link_in t) ns)) (sym e) (made_sorted t0 t t' other i.grows grows older made newer from at w (i.within w) s (i.links w s k))) in
    let cut = take (length older - from) (drop from older) in
    let tail : cut ≡ drop from older = take_all (length older - from) (drop from older) (omega (arith, length-drop from older)) in
    let links = subst (λ (ns : List Node). AreSorted (map (link_in t') ns) → map (link_in t') new ++ map (link_in t') (drop n ns) ≡ map (link_in t') made ++ with_link (link_in t' x) (map (link_in t') ns)) tail (subst (λ (v : List ℕ). AreSorted (map (link_in v) cut) → map (link_in v) new ++ map (link_in v) (drop n cut) ≡ map (link_in v) made ++ with_link (link_in v x) (map (link_in v) cut)) f c.in_ok-from.ensures.links) in
    let below = subst (λ (ns : List Node). (r : Revision) → AreSorted (map (link_in t') ns) → revision_order (link_in t' x).rev r ≡ Less → AreBelow r (map (link_in t') made) → AreBelow r (map (link_in t') new)) tail (subst (λ (v : List ℕ). (r : Revision) → AreSorted (map (link_in v) cut) → revision_order (link_in v x).rev r ≡ Less → AreBelow r (map (link_in v) made) → AreBelow r (map (link_in v) new)) f c.in_ok-from.ensures.below) in
    record {
      grows = grown-grown t0 t t' i.grows grows;
      from = omega (arith, c.in_ok-from.ensures.inside, i.from, ap length tail, length-drop from older);
      within = λ w. c.in_ok-from.ensures.within (length t') (within-more (length t) (length t') (grown-length t t' grows) made (i.within w)) (subst (NodesWithin (length t')) (sym tail) (within-drop (length t') from older (within-more (length t) (length t') (grown-length t t' grows) older (older_at w)))) (c.in_ok-copy.ensures.within (older_at w) (made_at w));
      links = λ w s k.
          let sorted = rest_sorted t0 t t' other i.grows grows older made newer from at w (i.within w) s (i.links w s k) in
          links_next t0 t t' other i.grows grows older made newer from at w (i.within w) s (i.links w s k) x d new n lt (link w s k) (i.below w s k at d (omega arith) lt) (links sorted);
      below = λ w s k j m le inside.
          let sorted = rest_sorted t0 t t' other i.grows grows older made newer from at w (i.within w) s (i.links w s k) in
          below_next t0 t t' other i.grows grows older made newer from at w (i.within w) s (i.links w s k) x d new n lt (link w s k) k j m (omega (arith, le)) inside (i.below w s k j m (omega (arith, le)) inside) (λ r less h. below r sorted less h);
    }

pub returns-clause-within : goal.returns-clause-within
returns-clause-within c = λ w.
    let t0 = c.args.texts.now.items in
    let t = c.loop-node.texts.items in
    let older = c.args.older.now in
    let from = c.loop-node.from in
    let i = c.loop-node.invariant in
    let tail = take_all (length older - from) (drop from older) (omega (arith, length-drop from older)) in
    subst (NodesWithin (length t)) (sym (c.in_ok-extend_from_slice.ensures.items ∙ ap (λ (ns : List Node). c.loop-node.made.items ++ ns) tail)) (within-append (length t) c.loop-node.made.items (drop from older) (i.within w) (within-drop (length t) from older (within-more (length t0) (length t) (grown-length t0 t i.grows) older w)))
