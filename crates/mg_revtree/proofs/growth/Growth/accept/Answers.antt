use Rattle.std.proofs.Common.{◌≡◌, ◌∙◌, List, OnOk, map, option_map, string_bytes, ap, sym, subst}
use Rattle.mg_revtree.specs.Revision.{run_from}
use Rattle.mg_revtree.specs.History.{Paths, Link}
use Rattle.mg_revtree.specs.Growth.{after_line, line_tree, tree_in}
use Rattle.mg_revtree.specs.Tree.{StandsFor, Tree}
use Rattle.mg_revtree.specs.Changes.{path_of, with_path}
use Rattle.mg_revtree.proofs.growth.Growth.accept.Goals as goal

pub returns-in-Grown-clause-accepted : goal.returns-in-Grown-clause-accepted
returns-in-Grown-clause-accepted c =
    let same : c.deref_mut.result.now ≡ tree_in c.args.self.now = c.deref_mut.ensures.value ∙ sym (ap tree_in c.in-Grown.is) in
    subst (λ (t : Tree). OnOk c.accept.result ((h : Paths) → StandsFor t h → StandsFor c.accept.new.self (with_path h (path_of (run_from c.args.start (map string_bytes c.args.ids.now)) c.args.deleted c.args.body)))) same c.accept.ensures.accepted

pub returns-in-Some-clause-accepted : goal.returns-in-Some-clause-accepted
returns-in-Some-clause-accepted c = λ h stands.
    let line : tree_in c.args.self.now ≡ line_tree c.deref_mut-in-Line.result.now c.in-Line.leaf = ap tree_in c.in-Line.is ∙ ap (λ (ks : List Link). line_tree ks c.in-Line.leaf) (sym c.deref_mut-in-Line.ensures.value) in
    let path = path_of (run_from c.args.start (map string_bytes c.args.ids.now)) c.args.deleted c.args.body in
    subst (λ (o : _). StandsFor (after_line (option_map (λ b. b.value) o) c.accept_on_line.new.known c.accept_on_line.new.leaf) (with_path h path)) c.in-Some.is (c.in_ok-merged-in-Line.ensures.accepted h (subst (λ (t : Tree). StandsFor t h) line stands))

pub returns-in-None-clause-accepted : goal.returns-in-None-clause-accepted
returns-in-None-clause-accepted c = λ h stands.
    let line : tree_in c.args.self.now ≡ line_tree c.deref_mut-in-Line.result.now c.in-Line.leaf = ap tree_in c.in-Line.is ∙ ap (λ (ks : List Link). line_tree ks c.in-Line.leaf) (sym c.deref_mut-in-Line.ensures.value) in
    let path = path_of (run_from c.args.start (map string_bytes c.args.ids.now)) c.args.deleted c.args.body in
    subst (λ (o : _). StandsFor (after_line (option_map (λ b. b.value) o) c.accept_on_line.new.known c.accept_on_line.new.leaf) (with_path h path)) c.in-None.is (c.in_ok-merged-in-Line.ensures.accepted h (subst (λ (t : Tree). StandsFor t h) line stands))
