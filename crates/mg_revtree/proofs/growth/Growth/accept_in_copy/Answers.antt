use Rattle.std.proofs.Common.{map, string_bytes, sym, subst}
use Rattle.mg_revtree.specs.Revision.{run_from}
use Rattle.mg_revtree.specs.Tree.{StandsFor, Tree}
use Rattle.mg_revtree.specs.Changes.{path_of, with_path}
use Rattle.mg_revtree.proofs.growth.Growth.accept_in_copy.Goals as goal

pub returns-clause-accepted : goal.returns-clause-accepted
returns-clause-accepted c = λ h stands.
    subst (λ (t : Tree). StandsFor t (with_path h (path_of (run_from c.args.start (map string_bytes c.args.ids.now)) c.args.deleted c.args.body))) (sym c.in_ok-growth.ensures) (c.in_ok-merged.ensures.accepted h (c.in_ok-grown.ensures h stands))

pub returns-clause-found : goal.returns-clause-found
returns-clause-found c = λ h stands. c.in_ok-merged.ensures.found h (c.in_ok-grown.ensures h stands)
