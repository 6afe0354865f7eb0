use Rattle.std.proofs.Common.{◌≡◌, ◌∙◌, ℕ, List, true, ap, sym, arith}
use Rattle.std.specs.Ordering.{is_eq, nat_cmp}
use Rattle.std.specs.Cmp.Lexicographic.{slice_cmp}
use Rattle.mg_revtree.specs.Revision.{Revision, same_revision}
use Rattle.mg_revtree.specs.Nodes.{link_in, text_of_part}
use Rattle.mg_revtree.proofs.Pairs.{pair_is}
use Rattle.mg_revtree.proofs.links.pair.is_pair.Goals as goal

pub returns-in-Some : goal.returns-in-Some
returns-in-Some c = λ named.
    let t = c.args.texts.now in
    let rev = c.args.rev.now in
    let at : c.rev.inside.pos ≡ rev.0 = ap (λ (r : Revision). r.0) c.rev.view_is in
    let is : (c.rev.inside.pos, c.as_bytes.result.now) ≡ rev = ap (λ (s : List ℕ). (let r : Revision = (c.rev.inside.pos, s) in r)) c.as_bytes.ensures ∙ c.rev.view_is in
    let same : same_revision (link_in t c.args.child).rev rev ≡ true = ap (λ (r : Revision). same_revision (link_in t c.args.child).rev r) (sym is) ∙ ap is_eq (sym c.order.ensures) ∙ sym c.is_eq.ensures ∙ c.if-not-is_eq.false in
    let texts : is_eq (slice_cmp nat_cmp (text_of_part t c.in-Some.parent) (text_of_part t c.args.below.id)) ≡ true =
    ap (λ (s : List ℕ). is_eq (slice_cmp nat_cmp s (text_of_part t c.args.below.id))) (sym c.of.ensures) ∙ ap (λ (s : List ℕ). is_eq (slice_cmp nat_cmp c.of.result.now s)) (sym c.of-in-Some.ensures)
    ∙ ap is_eq (sym c.cmp.ensures) ∙ sym c.is_eq-in-Some.ensures ∙ named in
    let root = c.is_root_below.ensures c.if-not-is_root_below.false in
    (omega (arith, at, root.0), pair_is t c.args.below c.args.child rev c.in-Some.parent (omega (arith, at, root.1)) root.2 same c.in-Some.is texts)
