use Rattle.std.proofs.Common.{◌≡◌, ◌∙◌, ◌+◌, ℕ, List, [], ◌∷◌, Option, None, false, is_some, true, map, option_copied, string_bytes, ap, sym, subst}
use Rattle.mg_revtree.specs.Revision.{Revision, run_from}
use Rattle.mg_revtree.specs.Growth.{empty_tree, first_tree, is_empty, tree_in}
use Rattle.mg_revtree.specs.Tree.{StandsFor, Tree}
use Rattle.mg_revtree.specs.Changes.{extension, next_revision, path_of, position_below, run_over, with_path}
use Rattle.mg_revtree.specs.Steps.{ids_over}
use Rattle.mg_revtree.proofs.Extend.{run_over_is}
use Rattle.mg_revtree.proofs.Firsts.{empty_is, none_copied, stands_first}
use Rattle.mg_revtree.proofs.tree.RevTree.make_revision.Goals as goal

pub returns-then-is_empty-clause-accepted : goal.returns-then-is_empty-clause-accepted
returns-then-is_empty-clause-accepted c = λ h stands.
    let id = string_bytes c.args.id in
    let body = c.args.body in
    let d = c.args.deleted in
    let missing : is_some c.args.parent ≡ false = cc (c.is_none.ensures, c.if-is_none.true) in
    let alone : option_copied c.args.parent ≡ None = none_copied c.args.parent missing in
    let none : is_empty c.self.inside.growth ≡ true = sym c.is_empty.ensures ∙ c.if-is_empty.true in
    let empty : c.args.self.now ≡ empty_tree = sym c.self.view_is ∙ empty_is c.self.inside.growth none in
    let first : c.args.pos ≡ 0 + 1 = c.requires ∙ ap (λ (p : Option Revision). position_below p + 1) alone in
    let made : c.begin.new.self ≡ first_tree (record { rev = (c.args.pos, id); deleted = d; body = body }) = c.in_ok-begin.ensures.begun ∙ ap (λ (t : List ℕ). first_tree (record { rev = (c.args.pos, t); deleted = d; body = body })) c.of-id.ensures in
    let begun : StandsFor c.begin.new.self (with_path h (path_of ((c.args.pos, id) ∷ []) d body)) = subst (λ (t : Tree). StandsFor t (with_path h (path_of ((c.args.pos, id) ∷ []) d body))) (sym made) (stands_first h (c.args.pos, id) d body (subst (λ (t : Tree). StandsFor t h) empty stands)) in
    subst (λ (p : Option Revision). StandsFor c.begin.new.self (with_path h (extension p id d body))) (sym alone) (subst (λ (m : ℕ). StandsFor c.begin.new.self (with_path h (path_of ((m, id) ∷ []) d body))) first begun)

pub returns-clause-accepted : goal.returns-clause-accepted
returns-clause-accepted c = λ h stands.
    let p = option_copied c.args.parent in
    let id = string_bytes c.args.id in
    let s : StandsFor (tree_in c.self-2.inside.growth) h = subst (λ (t : Tree). StandsFor t h) (sym c.self-2.view_is) stands in
    let is : run_from c.args.pos (map string_bytes c.deref.result.now) ≡ run_over (next_revision p id) p = ap (λ (ss : List (List ℕ)). run_from c.args.pos ss) (ap (map string_bytes) c.deref.ensures.value ∙ c.in_ok-ids.ensures) ∙ ap (λ (m : ℕ). run_from m (ids_over id p)) c.requires ∙ run_over_is p id in
    subst (λ (rs : List Revision). StandsFor (tree_in c.accept.new.self) (with_path h (path_of rs c.args.deleted c.args.body))) is (c.in_ok-accept.ensures.accepted h s)
