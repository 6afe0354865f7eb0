use Rattle.std.proofs.Common.{◌≡◌, ◌+◌, ◌<◌, length, is_some, rules, arith, ap, sym, subst, ◌∙◌}
use Rattle.mg_pages.specs.Order.{Ascends}
use Rattle.mg_pages.specs.Subtree.{IsLast, elements_of}
use Rattle.mg_pages.specs.Tree.{node_elements, node_levels}
use Rattle.mg_pages.proofs.Counts.{count_put}
use Rattle.mg_pages.proofs.Levels.{child_ascends, child_found, children_some, levels_fall, on_err_when, set_inserted, set_kept}
use Rattle.mg_pages.proofs.insertion.+put.Goals as goal

pub put_among-put_in_child-requires : goal.put_among-put_in_child-requires
put_among-put_in_child-requires g t c κs within =
    let ts = c.args.children.now.items in
    let l : c.place-i.result < length ts = rw c.deref.ensures.value at c.place-i.ensures.within in
    let lower = levels_fall ts c.place-i.result c.index_mut.result.now l c.index_mut.ensures.value in
    (omega (arith, lower, c.decreases), (search rules, child_ascends ts c.place-i.result c.index_mut.result.now l c.index_mut.ensures.value g.T.Keyed.order c.requires.sorted))

pub put_among-returns-in_err-had-clause-err : goal.put_among-returns-in_err-had-clause-err
put_among-returns-in_err-had-clause-err g t c =
    let ts = c.args.children.now.items in
    let l : c.place-i.result < length ts = rw c.deref.ensures.value at c.place-i.ensures.within in
    on_err_when c.from_residual.result (set_kept ts c.place-i.result c.index_mut.result.now l c.index_mut.ensures.value c.put_in_child.new.child c.in_err-had.ensures.err)

pub put_among-returns-clause-had : goal.put_among-returns-clause-had
put_among-returns-clause-had g t c =
    let ts = c.args.children.now.items in
    let l : c.place-i.result < length ts = rw c.deref.ensures.value at c.place-i.ensures.within in
    c.in_ok-had.ensures.had
    ∙ ap is_some (child_found ts c.place-i.result c.index_mut.result.now l c.index_mut.ensures.value (g.T.Keyed.order c.args.element) (rw c.deref.ensures.value at c.place-i.ensures.below) (rw c.deref.ensures.value at c.place-i.ensures.above))

pub put_among-returns-clause-ok : goal.put_among-returns-clause-ok
put_among-returns-clause-ok g t c =
    let ts = c.args.children.now.items in
    let l : c.place-i.result < length ts = rw c.deref.ensures.value at c.place-i.ensures.within in
    c.split_full.ensures
    ∙ set_inserted ts c.place-i.result c.index_mut.result.now l c.index_mut.ensures.value c.put_in_child.new.child g.T.Keyed.order c.args.element (rw c.deref.ensures.value at c.place-i.ensures.below) (rw c.deref.ensures.value at c.place-i.ensures.above) c.in_ok-had.ensures.ok

pub put_in_node-put_among-requires : goal.put_in_node-put_among-requires
put_in_node-put_among-requires g t c κs within =
    let ts = c.in-Level.children.items in
    let own : node_elements c.args.node.now ≡ elements_of ts = ap node_elements c.in-Level.is in
    (omega (arith, ap node_levels c.in-Level.is, c.decreases), (search rules, (children_some ts (omega (arith, ap length own, c.requires.some)), subst (Ascends g.T.Keyed.order) own c.requires.sorted)))

pub put_in_tree-invariant_of-tree-2 : goal.put_in_tree-invariant_of-tree-2
put_in_tree-invariant_of-tree-2 g t c =
    let order = g.T.Keyed.order in
    let xs = node_elements c.tree.inside.node in
    let ys = node_elements c.put_in_node.new.node in
    let rises = subst (λ u. Ascends order u.elements) (sym c.tree.view_is) c.requires in
    let more : c.in-Some.more ≡ length xs + 1 = omega (arith, c.in-Some.ensures, c.tree.invariant.counted) in
    record {
      ends = subst (λ us. IsLast c.in_ok-last.last us) (sym c.in_ok-had.ensures.ok) (c.in_ok-last.ensures xs rises c.tree.invariant.ends);
      counted = count_put order g.met.T.Keyed.total c.args.element xs ys c.in_ok-had.had c.in-Some.more c.count_after_put-tree-inside.result rises c.in_ok-had.ensures.ok c.in_ok-had.ensures.had more c.count_after_put-tree-inside.ensures.over c.count_after_put-tree-inside.ensures.new;
    }
