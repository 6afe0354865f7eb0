use Rattle.std.proofs.Common.{◌≡◌, ◌<◌, ◌+◌, ◌∷◌, ◌++◌, [], length, ap, sym, get_or, ◌∙◌}
use Rattle.mg_pages.proofs.Sorted.{take_one_more}
use Rattle.mg_pages.proofs.element.copy_elements.Goals as goal

pub loop-element-preserved : goal.loop-element-preserved
loop-element-preserved g c =
    let xs = c.args.elements.now in
    let i = c.loop-element.element-index in
    let e = c.element-item.result in
    let l : i < length xs = c.loop-element-test.true in
    let at : e ≡ get_or xs i e = c.element-item.is in
    let pushed = c.in_ok-push_again.ensures in
    record {
      copied = pushed.items ∙ ap (λ ys. ys ++ e ∷ []) c.loop-element.invariant.copied ∙ sym (take_one_more xs i e l at);
      some = rw pushed.len (ap (λ n. n + 1) c.loop-element.invariant.some);
      room = rw c.push_again.ensures.capacity c.loop-element.invariant.room;
    }
