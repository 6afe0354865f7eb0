use Rattle.std.proofs.Common.{◌≡◌, ◌++◌, ◌-◌, ◌<◌, suc, length, get_or, set, take, drop, ap, ap₂, ◌∙◌, arith}
use Rattle.mg_pages.specs.Subtree.{elements_of}
use Rattle.mg_pages.proofs.Levels.{joined}
use Rattle.mg_pages.proofs.mend.try_join.Goals as goal

pub returns-in-Some : goal.returns-in-Some
returns-in-Some g c =
    let ts = c.args.children.now.items in
    let i = c.args.next - 1 in
    let j = c.in-Some.joined in
    let n : c.args.next ≡ suc i = omega (arith, c.requires.some) in
    let l : suc i < length ts = omega (arith, c.requires.some, c.requires.within) in
    let both : j.elements ≡ c.tree.result.now.elements ++ c.tree-2.result.now.elements = rw c.in-Some.is at c.in_ok-join.ensures in
    let at : c.index-2.result.now ≡ get_or ts (suc i) c.index-2.result.now = c.index-2.ensures ∙ ap (λ k. get_or ts k c.index-2.result.now) n in
    ap (λ us. elements_of (set us i j)) (c.remove.ensures.items ∙ ap (λ k. take k ts ++ drop (suc k) ts) n)
    ∙ joined ts i c.index.result.now c.index-2.result.now j l c.index.ensures at (both ∙ ap₂ (λ a b. a.elements ++ b.elements) c.tree.ensures c.tree-2.ensures)
