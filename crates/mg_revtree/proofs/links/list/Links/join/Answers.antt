use Rattle.std.proofs.Common.{◌≡◌, ◌∙◌, ◌++◌, ℕ, List, length, map, string_bytes, sym, ap, subst, arith}
use Rattle.mg_revtree.specs.Revision.{run_from}
use Rattle.mg_revtree.specs.History.{Link, links}
use Rattle.mg_revtree.specs.Tree.{AreKnownLinks, AreSorted}
use Rattle.mg_revtree.specs.Nodes.{link_in, text_of_part, NodesWithin, PartsWithin}
use Rattle.mg_revtree.specs.declared.links.node.Node.{Node}
use Rattle.mg_revtree.proofs.Texts.{grown-length, grown-links, within-more}
use Rattle.mg_revtree.proofs.links.list.Links.join.Goals as goal

pub join_all-requires-clause-room : goal.join_all-requires-clause-room
join_all-requires-clause-room c = omega (arith, ap length c.deref-3.ensures.value, c.in-Ok.ensures.len, c.in_ok-reserve.ensures.ok)

pub join_all-requires-clause-run : goal.join_all-requires-clause-run
join_all-requires-clause-run c = omega (arith, ap length c.deref-3.ensures.value, c.in-Ok.ensures.len, c.requires)

pub invariant_of-self-2 : goal.invariant_of-self-2
invariant_of-self-2 c =
    let t = c.self.inside.texts.items in
    let t' = c.parts_for.new.texts.items in
    let n = length t' in
    let ns = c.self.inside.nodes.items in
    let w : NodesWithin (length t) ns = c.self.invariant in
    let e : c.deref.result.now ≡ ns = c.deref.ensures.value ∙ c.reserve.ensures.items in
    let parts : PartsWithin n c.in-Ok.parts.items = c.in-Ok.ensures.within (subst (NodesWithin (length t)) (sym e) w) in
    c.join_all.ensures.within n (subst (NodesWithin n) (sym c.reserve.ensures.items) (within-more (length t) n (grown-length t t' c.in-Ok.ensures.grows) ns w)) (subst (PartsWithin n) (sym c.deref-3.ensures.value) parts)

pub returns-clause-joined : goal.returns-clause-joined
returns-clause-joined c = λ ls nodes.
    let t = c.self.inside.texts.items in
    let t' = c.parts_for.new.texts.items in
    let u = c.deref-2.result.now in
    let ns = c.self.inside.nodes.items in
    let w : NodesWithin (length t) ns = c.self.invariant in
    let e : c.deref.result.now ≡ ns = c.deref.ensures.value ∙ c.reserve.ensures.items in
    let kept : AreKnownLinks (map (link_in t) ns) ls = subst (λ (ks : List Link). AreKnownLinks ks ls) (sym c.self.view_is) nodes in
    let seen : map (link_in u) c.reserve.new.list.items ≡ map (link_in t) ns = ap (λ (x : List ℕ). map (link_in x) c.reserve.new.list.items) c.deref-2.ensures.value ∙ ap (map (link_in t')) c.reserve.ensures.items ∙ grown-links t t' c.in-Ok.ensures.grows ns w in
    let parts : map (text_of_part t') c.in-Ok.parts.items ≡ map string_bytes c.args.ids.now = c.in-Ok.ensures.parts (subst (NodesWithin (length t)) (sym e) w) (subst (λ (k : List Node). AreSorted (map (link_in t) k)) (sym e) kept.sorted) in
    let all : map (text_of_part u) c.deref-3.result.now ≡ map string_bytes c.args.ids.now = ap (λ (x : List ℕ). map (text_of_part x) c.deref-3.result.now) c.deref-2.ensures.value ∙ ap (map (text_of_part t')) c.deref-3.ensures.value ∙ parts in
    let now = c.join_all.ensures.joined ls (subst (λ (ks : List Link). AreKnownLinks ks ls) (sym seen) kept) in
    subst (λ (x : List ℕ). AreKnownLinks (map (link_in x) c.join_all.new.nodes.items) (ls ++ links (run_from c.args.start (map string_bytes c.args.ids.now)))) c.deref-2.ensures.value (subst (λ (ss : List (List ℕ)). AreKnownLinks (map (link_in u) c.join_all.new.nodes.items) (ls ++ links (run_from c.args.start ss))) all now)
