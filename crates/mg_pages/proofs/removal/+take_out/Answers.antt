use Rattle.std.proofs.Common.{◌≡◌, ◌<◌, [], length, is_some, rules, arith, ap, sym, subst, ◌∙◌}
use Rattle.mg_pages.specs.Order.{Ascends, found, removed}
use Rattle.mg_pages.specs.Subtree.{IsLast, elements_of}
use Rattle.mg_pages.specs.Tree.{node_elements, node_levels}
use Rattle.mg_pages.proofs.Lent.{empty_of_length}
use Rattle.mg_pages.proofs.Levels.{child_ascends, child_found, levels_fall, on_err_when, same_at, set_kept, set_removed, taken_removed}
use Rattle.mg_pages.proofs.Sorted.{removed_present}
use Rattle.mg_pages.proofs.removal.+take_out.Goals as goal

pub take_out_among-returns-then-count-eq1-clause-ok : goal.take_out_among-returns-then-count-eq1-clause-ok
take_out_among-returns-then-count-eq1-clause-ok g t c =
    let order = g.T.Keyed.order in
    let key = g.Q.Probe.against c.args.key.now in
    let ts = c.args.children.now.items in
    let i = c.place-i.result in
    let u = c.index.result.now in
    let l : i < length ts = rw c.deref.ensures.value at c.place-i.ensures.within in
    let low = rw c.deref.ensures.value at c.place-i.ensures.below in
    let high = rw c.deref.ensures.value at c.place-i.ensures.above in
    let there = ap is_some (child_found ts i u l c.index.ensures key low high) ∙ c.requires.there in
    let n = removed_present order key (g.met.Q.Probe.probes c.args.key.now) u.elements (child_ascends ts i u l c.index.ensures order c.requires.sorted) there in
    let none : removed key u.elements ≡ [] = empty_of_length (removed key u.elements) (omega (arith, n, c.count.ensures, ap (λ v. length v.elements) c.tree.ensures, c.if-count-eq1.true)) in
    ap elements_of c.remove.ensures.items ∙ taken_removed ts i u l c.index.ensures key low high none

pub take_out_among-take_out_of_child-requires : goal.take_out_among-take_out_of_child-requires
take_out_among-take_out_of_child-requires g t c κs within =
    let order = g.T.Keyed.order in
    let key = g.Q.Probe.against c.args.key.now in
    let ts = c.args.children.now.items in
    let i = c.place-i.result in
    let u = c.index_mut.result.now in
    let l : i < length ts = rw c.deref.ensures.value at c.place-i.ensures.within in
    let low = rw c.deref.ensures.value at c.place-i.ensures.below in
    let high = rw c.deref.ensures.value at c.place-i.ensures.above in
    let there = ap is_some (child_found ts i u l c.index_mut.ensures.value key low high) ∙ c.requires.there in
    let rises = child_ascends ts i u l c.index_mut.ensures.value order c.requires.sorted in
    let n = removed_present order key (g.met.Q.Probe.probes c.args.key.now) u.elements rises there in
    let same = same_at ts i c.index.result.now u l c.index.ensures c.index_mut.ensures.value in
    let several : 1 < length u.elements = omega (arith, n, c.count.ensures, ap (λ v. length v.elements) (c.tree.ensures ∙ same), c.if-count-eq1.false) in
    let lower = levels_fall ts i u l c.index_mut.ensures.value in
    (omega (arith, lower, c.decreases), (search rules, (search rules, (several, (rises, there)))))

pub take_out_among-returns-in_err-take_out_of_child-clause-err : goal.take_out_among-returns-in_err-take_out_of_child-clause-err
take_out_among-returns-in_err-take_out_of_child-clause-err g t c =
    let ts = c.args.children.now.items in
    let l : c.place-i.result < length ts = rw c.deref.ensures.value at c.place-i.ensures.within in
    on_err_when c.from_residual.result (set_kept ts c.place-i.result c.index_mut.result.now l c.index_mut.ensures.value c.take_out_of_child.new.child c.in_err-take_out_of_child.ensures.err)

pub take_out_among-returns-clause-ok : goal.take_out_among-returns-clause-ok
take_out_among-returns-clause-ok g t c =
    let ts = c.args.children.now.items in
    let l : c.place-i.result < length ts = rw c.deref.ensures.value at c.place-i.ensures.within in
    c.join_small.ensures
    ∙ set_removed ts c.place-i.result c.index_mut.result.now l c.index_mut.ensures.value c.take_out_of_child.new.child (g.Q.Probe.against c.args.key.now) (rw c.deref.ensures.value at c.place-i.ensures.below) (rw c.deref.ensures.value at c.place-i.ensures.above)
    c.in_ok-take_out_of_child.ensures.ok

pub take_out_of_node-take_out_among-requires : goal.take_out_of_node-take_out_among-requires
take_out_of_node-take_out_among-requires g t c κs within =
    let own : node_elements c.args.node.now ≡ elements_of c.in-Level.children.items = ap node_elements c.in-Level.is in
    (omega (arith, ap node_levels c.in-Level.is, c.decreases), (search rules, (search rules, (subst (Ascends g.T.Keyed.order) own c.requires.sorted, sym (ap (λ us. is_some (found (g.Q.Probe.against c.args.key.now) us)) own) ∙ c.requires.there))))

pub take_out_of_tree-invariant_of-tree-2 : goal.take_out_of_tree-invariant_of-tree-2
take_out_of_tree-invariant_of-tree-2 g t c =
    let order = g.T.Keyed.order in
    let key = g.Q.Probe.against c.args.key.now in
    let all = c.args.tree.now.elements in
    let own : node_elements c.tree.inside.node ≡ all = ap (λ u. u.elements) c.tree.view_is in
    let n = removed_present order key (g.met.Q.Probe.probes c.args.key.now) all c.requires.sorted c.requires.there in
    let new : node_elements c.take_out_of_node.new.node ≡ removed key all = c.in_ok-take_out_of_node.ensures.ok ∙ ap (removed key) own in
    record {
      ends = subst (λ us. IsLast c.in_ok-last.last us) (sym new) (c.in_ok-last.ensures (omega (arith, n, c.requires.several)));
      counted = omega (arith, n, ap length new, ap length own, c.tree.invariant.counted);
    }
