use Rattle.std.proofs.Common.{◌≡◌, ◌∙◌, Option, ap, option_copied, refl, string_bytes, sym, subst}
use Rattle.mg_revtree.specs.Revision.{Revision}
use Rattle.mg_revtree.specs.History.{all_links, is_known}
use Rattle.mg_revtree.specs.Growth.{tree_in}
use Rattle.mg_revtree.specs.Tree.{Tree, StandsFor}
use Rattle.mg_revtree.specs.Changes.{refusal_of}
use Rattle.mg_revtree.specs.declared.error.TreeRefusal.TheVariants.{Known}
use Rattle.mg_revtree.proofs.Step.{found_known}
use Rattle.mg_revtree.proofs.Extend.{not_refused, open_above, open_refused, refused_known, refused_position}
use Rattle.mg_revtree.proofs.tree.RevTree.open_position.Goals as goal

pub returns-in_err-pos-clause-decided : goal.returns-in_err-pos-clause-decided
returns-in_err-pos-clause-decided c = λ h stands.
    open_refused _ (option_copied c.args.parent) c.in_err-pos.field-0.0 c.from_residual.result (refused_position h (option_copied c.args.parent) (string_bytes c.args.id.now) c.in_err-pos.field-0.0 (c.in_err-pos.ensures.position h stands)) c.from_residual.ensures.1

pub returns-then-knows-clause-decided : goal.returns-then-knows-clause-decided
returns-then-knows-clause-decided c = λ h stands.
    let ks = (tree_in c.self.inside.growth).links in
    let p = option_copied c.args.parent in
    let s : StandsFor (tree_in c.self.inside.growth) h = subst (λ (t : Tree). StandsFor t h) (sym c.self.view_is) stands in
    let r : Revision = (c.in_ok-pos.pos, string_bytes c.args.id.now) in
    let k : c.knows.result ≡ is_known r (all_links h) = c.knows.ensures s.known.sorted ∙ found_known r (all_links h) ks (s.known.same r) in
    open_refused (refusal_of h p (string_bytes c.args.id.now)) p Known _ (refused_known h p (string_bytes c.args.id.now) c.in_ok-pos.pos (c.in_ok-pos.ensures.position h stands) (sym k ∙ c.if-knows.true)) refl

pub returns-clause-decided : goal.returns-clause-decided
returns-clause-decided c = λ h stands.
    let ks = (tree_in c.self.inside.growth).links in
    let p = option_copied c.args.parent in
    let s : StandsFor (tree_in c.self.inside.growth) h = subst (λ (t : Tree). StandsFor t h) (sym c.self.view_is) stands in
    let r : Revision = (c.in_ok-pos.pos, string_bytes c.args.id.now) in
    let k : c.knows.result ≡ is_known r (all_links h) = c.knows.ensures s.known.sorted ∙ found_known r (all_links h) ks (s.known.same r) in
    open_above _ p c.in_ok-pos.pos (not_refused h p (string_bytes c.args.id.now) c.in_ok-pos.pos (c.in_ok-pos.ensures.position h stands) (sym k ∙ c.if-knows.false)) c.in_ok-pos.ensures.above
