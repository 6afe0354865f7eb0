use Rattle.std.proofs.Common.{◌≡◌, ◌∙◌, List, false, sym, subst, true}
use Rattle.mg_value.specs.Value.{Value}
use Rattle.mg_value.specs.View.{view}
use Rattle.mg_revtree.specs.Revision.{Revision}
use Rattle.mg_revtree.specs.History.{all_links, fits, is_known_whole, links}
use Rattle.mg_revtree.specs.Tree.{StandsFor}
use Rattle.mg_revtree.specs.Changes.{path_of, with_path}
use Rattle.mg_revtree.proofs.Replicas.{whole_fits, whole_stands}
use Rattle.mg_revtree.proofs.tree.RevTree.merge.Goals as goal

pub returns-in_err-is_merged-clause-whole : goal.returns-in_err-is_merged-clause-whole
returns-in_err-is_merged-clause-whole c = λ h stands whole.
    let fitting : fits h c.args.path.now ≡ true = whole_fits (all_links h) (links c.args.path.now) whole in
    let odd : false ≡ true = c.in_err-is_merged.ensures.fitting h stands fitting in absurd cc

pub returns-then-branch-clause-accepted : goal.returns-then-branch-clause-accepted
returns-then-branch-clause-accepted c = λ h stands.
    let whole : is_known_whole h c.args.path.now ≡ true = sym (c.in_ok-is_merged.ensures.whole h stands) ∙ c.if-branch.true in
    whole_stands c.args.self.now h c.args.path.now c.args.deleted (view c.args.body) whole stands

pub returns-then-branch-clause-found : goal.returns-then-branch-clause-found
returns-then-branch-clause-found c = λ h stands. c.in_ok-is_merged.ensures.known h stands c.if-branch.true

pub returns-clause-accepted : goal.returns-clause-accepted
returns-clause-accepted c = λ h stands.
    subst (λ (b : Value). StandsFor c.accept.new.self (with_path h (path_of c.args.path.now c.args.deleted b))) c.in_ok-body.ensures
    (subst (λ (rs : List Revision). StandsFor c.accept.new.self (with_path h (path_of rs c.args.deleted c.in_ok-body.body))) (sym c.run-start.ensures.run) (c.in_ok-accept.ensures.accepted h stands))
