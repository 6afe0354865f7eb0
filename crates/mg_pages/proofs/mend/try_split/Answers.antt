use Rattle.std.proofs.Common.{◌≡◌, ◌++◌, ap, ◌∙◌}
use Rattle.mg_pages.specs.Subtree.{elements_of}
use Rattle.mg_pages.proofs.Levels.{halved}
use Rattle.mg_pages.proofs.mend.try_split.Goals as goal

pub returns-in_ok-replace-in-Some : goal.returns-in_ok-replace-in-Some
returns-in_ok-replace-in-Some g c =
    let ts = c.args.children.now.items in
    let f = c.in-Some.front in
    let b = c.in-Some.back in
    let both : f.elements ++ b.elements ≡ c.tree.result.now.elements = rw c.in-Some.is at c.in_ok-split.ensures in
    ap elements_of c.in_ok-replace-in-Some.ensures.ok
    ∙ halved ts c.args.i c.index.result.now c.requires c.index.ensures f b (both ∙ ap (λ t. t.elements) c.tree.ensures)
