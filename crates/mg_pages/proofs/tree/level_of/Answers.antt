use Rattle.std.proofs.Common.{◌-◌, ◌<◌, length, arith, ap, sym, subst, ◌∙◌}
use Rattle.mg_pages.specs.Subtree.{IsLast, elements_of}
use Rattle.mg_pages.proofs.Levels.{last_of_children}
use Rattle.mg_pages.proofs.tree.level_of.Goals as goal

pub invariant_of-child_of : goal.invariant_of-child_of
invariant_of-child_of g c =
    let ts = c.args.children.items in
    let i = c.len.result - 1 in
    let l : i < length ts = omega (arith, c.len.ensures, c.requires.some) in
    let last = c.last.result.now in
    let it = subst (λ t. IsLast last t.elements) c.tree.ensures c.last.ensures in
    record {
      ends = subst (λ x. IsLast x (elements_of ts)) (sym c.in_ok-last.ensures) (last_of_children ts i c.index.result.now l c.index.ensures last (omega (arith, c.len.ensures, c.requires.some)) it);
      counted = c.count_of-count.ensures ∙ ap (λ us. length (elements_of us)) c.deref.ensures.value;
    }
