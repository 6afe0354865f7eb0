use Rattle.std.proofs.Common.{◌≡◌, ◌∙◌, OnOk, List, ℕ, [], ◌∷◌, length, map, string_bytes, true, ap, sym, subst, arith}
use Rattle.mg_revtree.specs.Revision.{Revision, run_from}
use Rattle.mg_revtree.specs.History.{Paths}
use Rattle.mg_revtree.specs.Growth.{empty_tree, first_tree, is_empty, tree_in}
use Rattle.mg_revtree.specs.Tree.{StandsFor, Tree}
use Rattle.mg_revtree.specs.Changes.{path_of, with_path}
use Rattle.mg_revtree.proofs.Firsts.{empty_is, one_run, stands_first}
use Rattle.mg_revtree.proofs.tree.RevTree.accept.Goals as goal

pub returns-then-ids-gt1-clause-accepted : goal.returns-then-ids-gt1-clause-accepted
returns-then-ids-gt1-clause-accepted c =
    subst (λ (t : Tree). OnOk c.accept.result ((h : Paths) → StandsFor t h → StandsFor (tree_in c.accept.new.self) (with_path h (path_of (run_from c.args.start (map string_bytes c.args.ids.now)) c.args.deleted c.args.body)))) c.self.view_is c.accept.ensures.accepted

pub returns-clause-accepted : goal.returns-clause-accepted
returns-clause-accepted c = λ h stands.
    let q : Revision = (c.args.start, string_bytes c.index-ids-0.result) in
    let one : length c.args.ids.now ≡ 1 = omega (arith, c.if-ids-gt1.false, c.requires.some) in
    let run : run_from c.args.start (map string_bytes c.args.ids.now) ≡ q ∷ [] = one_run string_bytes c.args.start c.args.ids.now c.index-ids-0.result one c.index-ids-0.is in
    let none : is_empty c.self.inside.growth ≡ true = cc in
    let empty : c.args.self.now ≡ empty_tree = sym c.self.view_is ∙ empty_is c.self.inside.growth none in
    let made : c.begin.new.self ≡ first_tree (record { rev = q; deleted = c.args.deleted; body = c.args.body }) = c.in_ok-begin.ensures.begun ∙ ap (λ (t : List ℕ). first_tree (record { rev = (c.args.start, t); deleted = c.args.deleted; body = c.args.body })) (c.in_ok-copy_of.ensures.copy ∙ c.deref.ensures) in
    subst (λ (rs : List Revision). StandsFor c.begin.new.self (with_path h (path_of rs c.args.deleted c.args.body))) (sym run) (subst (λ (t : Tree). StandsFor t (with_path h (path_of (q ∷ []) c.args.deleted c.args.body))) (sym made) (stands_first h q c.args.deleted c.args.body (subst (λ (t : Tree). StandsFor t h) empty stands)))
