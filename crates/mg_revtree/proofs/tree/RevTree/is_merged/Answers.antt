use Rattle.std.proofs.Common.{◌≡◌, ◌∙◌, List, ap, false, map, string_bytes, sym, subst, true, arith}
use Rattle.mg_revtree.specs.Revision.{Revision}
use Rattle.mg_revtree.specs.History.{all_links, fits, is_known_whole, links}
use Rattle.mg_revtree.specs.Growth.{tree_in}
use Rattle.mg_revtree.specs.Tree.{StandsFor, Tree}
use Rattle.mg_revtree.specs.Changes.{found_of}
use Rattle.mg_revtree.specs.declared.error.Merged.TheVariants.{Known}
use Rattle.mg_revtree.proofs.Runs.{length-map}
use Rattle.mg_revtree.proofs.Replicas.{whole_fits, whole_found}
use Rattle.mg_revtree.proofs.tree.RevTree.is_merged.Goals as goal

pub returns-then-knows_whole-clause-whole : goal.returns-then-knows_whole-clause-whole
returns-then-knows_whole-clause-whole c = λ h stands.
    let s : StandsFor (tree_in c.self.inside.growth) h = subst (λ (t : Tree). StandsFor t h) (sym c.self.view_is) stands in
    let whole : is_known_whole h c.args.path.now ≡ true = ap (is_known_whole h) c.run-start.ensures.run ∙ sym (c.knows_whole.ensures (all_links h) s.known) ∙ c.if-knows_whole.true in
    sym whole

pub returns-then-knows_whole-clause-refused : goal.returns-then-knows_whole-clause-refused
returns-then-knows_whole-clause-refused c = λ h stands misfit.
    let s : StandsFor (tree_in c.self.inside.growth) h = subst (λ (t : Tree). StandsFor t h) (sym c.self.view_is) stands in
    let whole : is_known_whole h c.args.path.now ≡ true = ap (is_known_whole h) c.run-start.ensures.run ∙ sym (c.knows_whole.ensures (all_links h) s.known) ∙ c.if-knows_whole.true in
    absurd (let fitting : fits h c.args.path.now ≡ true = whole_fits (all_links h) (links c.args.path.now) whole in cc (fitting, misfit))

pub returns-then-knows_whole-clause-known : goal.returns-then-knows_whole-clause-known
returns-then-knows_whole-clause-known c = λ h stands is.
    let s : StandsFor (tree_in c.self.inside.growth) h = subst (λ (t : Tree). StandsFor t h) (sym c.self.view_is) stands in
    let whole : is_known_whole h c.args.path.now ≡ true = ap (is_known_whole h) c.run-start.ensures.run ∙ sym (c.knows_whole.ensures (all_links h) s.known) ∙ c.if-knows_whole.true in
    subst (λ (rs : List Revision). Known ≡ found_of h rs) (sym c.run-start.ensures.run) (whole_found h c.run-start.result.0 (map string_bytes c.run-start.result.1.now) (omega (arith, length-map string_bytes c.run-start.result.1.now, c.run-start.ensures.some)) (ap (is_known_whole h) (sym c.run-start.ensures.run) ∙ whole))

pub returns-clause-whole : goal.returns-clause-whole
returns-clause-whole c = λ h stands.
    let s : StandsFor (tree_in c.self.inside.growth) h = subst (λ (t : Tree). StandsFor t h) (sym c.self.view_is) stands in
    let part : is_known_whole h c.args.path.now ≡ false = ap (is_known_whole h) c.run-start.ensures.run ∙ sym (c.knows_whole.ensures (all_links h) s.known) ∙ c.if-knows_whole.false in
    sym part
