use Rattle.std.proofs.Common.{◌≡◌, ◌∙◌, List, [], ◌∷◌, map, string_bytes, ap, sym, subst}
use Rattle.mg_revtree.specs.Revision.{run_from}
use Rattle.mg_revtree.specs.History.{Link}
use Rattle.mg_revtree.specs.Growth.{line_tree}
use Rattle.mg_revtree.specs.Tree.{StandsFor, Tree}
use Rattle.mg_revtree.specs.Changes.{path_of, with_path}
use Rattle.mg_revtree.proofs.Firsts.{line_is}
use Rattle.mg_revtree.proofs.growth.accept_on_line.Goals as goal

pub returns-then-len-ne1-clause-accepted : goal.returns-then-len-ne1-clause-accepted
returns-then-len-ne1-clause-accepted c = λ h stands.
    let known : List Link = c.args.known.now in
    let taken : c.deref_mut.result.now ≡ line_tree [] c.args.leaf.now = c.deref_mut.ensures.value ∙ c.in_ok-grown.ensures.ok ∙ c.in_ok-without_links.ensures in
    let line : c.deref_mut-2.result.now ≡ line_tree known c.args.leaf.now = c.deref_mut-2.ensures.value ∙ c.exchange.ensures.given ∙ ap (λ (t : Tree). record t { links = known }) taken in
    c.in-Ok.ensures.accepted h (subst (λ (t : Tree). StandsFor t h) (sym line) stands)

pub returns-clause-accepted : goal.returns-clause-accepted
returns-clause-accepted c = λ h stands.
    let known : List Link = c.args.known.now in
    let taken : c.deref_mut.result.now ≡ line_tree [] c.args.leaf.now = c.deref_mut.ensures.value ∙ c.in_ok-grown.ensures.ok ∙ c.in_ok-without_links.ensures in
    let line : c.deref_mut-2.result.now ≡ line_tree known c.args.leaf.now = c.deref_mut-2.ensures.value ∙ c.exchange.ensures.given ∙ ap (λ (t : Tree). record t { links = known }) taken in
    let grown : StandsFor c.accept.new.self (with_path h (path_of (run_from c.args.start (map string_bytes c.args.ids.now)) c.args.deleted c.args.body)) = c.in-Ok.ensures.accepted h (subst (λ (t : Tree). StandsFor t h) (sym line) stands) in
    let links : c.exchange-2.new.known ≡ c.accept.new.self.links = c.exchange-2.ensures.taken ∙ ap (λ (t : Tree). t.links) c.deref_mut-3.ensures.value in
    let leaves : c.accept.new.self.leaves ≡ c.only_leaf.result ∷ [] = cc in
    let same : c.accept.new.self ≡ line_tree c.exchange-2.new.known c.only_leaf.result = line_is c.accept.new.self c.exchange-2.new.known c.only_leaf.result links leaves in
    subst (λ (t : Tree). StandsFor t (with_path h (path_of (run_from c.args.start (map string_bytes c.args.ids.now)) c.args.deleted c.args.body))) same grown
