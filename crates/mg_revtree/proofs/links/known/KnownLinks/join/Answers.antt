use Rattle.std.proofs.Common.{◌∙◌, ◌++◌, List, ap, map, string_bytes, subst, sym}
use Rattle.mg_revtree.specs.Revision.{run_from}
use Rattle.mg_revtree.specs.History.{Link, links}
use Rattle.mg_revtree.specs.Tree.{AreKnownLinks, AreSorted}
use Rattle.mg_revtree.specs.Known.{with_links}
use Rattle.mg_revtree.proofs.Kept.{known_links_newer, known_links_self, sorted_all}
use Rattle.mg_revtree.proofs.links.known.KnownLinks.join.Goals as goal

pub invariant_of-self-then-are_few : goal.invariant_of-self-then-are_few
invariant_of-self-then-are_few c =
    let newer = c.self.inside.newer in
    (c.self.invariant.0, (c.in_ok-join.ensures.joined newer (known_links_self newer c.self.invariant.1)).sorted)

pub returns-then-are_few-clause-joined : goal.returns-then-are_few-clause-joined
returns-then-are_few-clause-joined c = λ ls nodes.
    let older = c.self.inside.older in
    let newer = c.self.inside.newer in
    let inv = c.self.invariant in
    let run = links (run_from c.args.start (map string_bytes c.args.ids.now)) in
    known_links_newer older newer c.join.new.self ls run inv.0 inv.1 (c.in_ok-join.ensures.joined newer (known_links_self newer inv.1)) (subst (λ (ks : List Link). AreKnownLinks ks ls) (sym c.self.view_is) nodes)

pub invariant_of-self-2 : goal.invariant_of-self-2
invariant_of-self-2 c =
    let inv = c.self.invariant in
    let all = c.in_ok-all.all in
    let sorted : AreSorted all = subst AreSorted (sym (c.in_ok-all.ensures inv.0 inv.1)) (sorted_all c.self.inside.older c.self.inside.newer inv.0) in
    (subst AreSorted (sym c.in_ok-self-inside.ensures) (c.in_ok-join-2.ensures.joined all (known_links_self all sorted)).sorted, subst AreSorted (sym c.new-2.ensures) tt)

pub returns-clause-joined : goal.returns-clause-joined
returns-clause-joined c = λ ls nodes.
    let inv = c.self.invariant in
    let run = links (run_from c.args.start (map string_bytes c.args.ids.now)) in
    let known = c.in_ok-all.ensures inv.0 inv.1 ∙ c.self.view_is in
    let now = c.in_ok-join-2.ensures.joined ls (subst (λ (ks : List Link). AreKnownLinks ks ls) (sym known) nodes) in
    subst (λ (ks : List Link). AreKnownLinks ks (ls ++ run)) (sym (ap (with_links c.in_ok-self-inside.field-0) c.new-2.ensures ∙ c.in_ok-self-inside.ensures)) now
