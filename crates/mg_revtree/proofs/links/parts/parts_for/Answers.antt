use Rattle.std.proofs.Common.{◌≡◌, ◌∙◌, ◌++◌, [], ◌∷◌, length, length-append, string_bytes, sym, ap, subst, arith}
use Rattle.mg_revtree.specs.Tree.{AreSorted}
use Rattle.mg_revtree.proofs.Texts.{grown-grown, grown-length, grown-links, parts-more, parts-push, parts-step, within-more}
use Rattle.mg_revtree.proofs.links.parts.parts_for.Goals as goal

pub loop-id-preserved : goal.loop-id-preserved
loop-id-preserved c =
    let t0 = c.args.texts.now.items in
    let t = c.loop-id.texts.items in
    let t' = c.part_for.new.texts.items in
    let ns = c.args.nodes.now in
    let ps = c.loop-id.parts.items in
    let p = c.in_ok-part.part in
    let i = c.loop-id.invariant in
    let k = c.in_ok-part.ensures.grows in
    let pushed : c.push.new.self.items ≡ ps ++ p ∷ [] = c.in_ok-push.ensures.items in
    record {
      grows = grown-grown t0 t t' i.grows k;
      within = λ w. rw pushed (parts-push (length t') ps p (parts-more (length t) (length t') (grown-length t t' k) ps (i.within w)) (c.in_ok-part.ensures.within (within-more (length t0) (length t) (grown-length t0 t i.grows) ns w)));
      parts = λ w s. rw pushed (parts-step string_bytes t t' k ps p c.args.ids.now c.loop-id.id-index c.id-item.result (i.within w) (i.parts w s) (c.in_ok-part.ensures.part (subst AreSorted (sym (grown-links t0 t i.grows ns w)) s) ∙ c.as_bytes.ensures.value) c.loop-id-test.true c.id-item.is);
      len = omega (arith, ap length pushed, length-append ps (p ∷ []), i.len);
    }
