use Rattle.std.proofs.Common.{◌≡◌, ◌∙◌, List, ℕ, get_or, map, option_copied, sym, ap, subst}
use Rattle.mg_revtree.specs.Revision.{Revision}
use Rattle.mg_revtree.specs.Tree.{AreSorted, find}
use Rattle.mg_revtree.specs.Nodes.{link_in}
use Rattle.mg_revtree.specs.declared.links.node.Node.{Node}
use Rattle.mg_revtree.proofs.Find.{gap_none}
use Rattle.mg_revtree.proofs.Texts.{kept-at}
use Rattle.mg_revtree.proofs.links.list.Links.look_up_parent.Goals as goal

pub returns-in-Ok : goal.returns-in-Ok
returns-in-Ok c = λ sorted.
    let t = c.self.inside.texts.items in
    let u = c.deref.result.now in
    let ns = c.deref-2.result.now in
    let r : Revision = (c.args.pos, c.args.id.now) in
    let e : map (link_in u) ns ≡ c.args.self.now = ap (λ x. map (link_in x) ns) c.deref.ensures.value ∙ ap (map (link_in t)) c.deref-2.ensures.value ∙ c.self.view_is in
    kept-at u c.args.pos c.args.id.now ns c.in-Ok.at c.index.result.now (option_copied c.parent_id.result) c.in-Ok.ensures.found.0 (c.in-Ok.ensures.found.1 (subst AreSorted (sym e) sorted)) (c.index.ensures ∙ ap (λ (xs : List Node). get_or xs c.in-Ok.at c.index.result.now) (sym c.deref-2.ensures.value)) (c.parent_id.ensures ∙ ap (λ (s : List ℕ). (link_in s c.index.result.now).parent) (c.deref-in-Ok.ensures.value ∙ sym c.deref.ensures.value)) ∙ ap (find r) e

pub returns-in-Err : goal.returns-in-Err
returns-in-Err c = λ sorted.
    let t = c.self.inside.texts.items in
    let u = c.deref.result.now in
    let ns = c.deref-2.result.now in
    let r : Revision = (c.args.pos, c.args.id.now) in
    let e : map (link_in u) ns ≡ c.args.self.now = ap (λ x. map (link_in x) ns) c.deref.ensures.value ∙ ap (map (link_in t)) c.deref-2.ensures.value ∙ c.self.view_is in
    sym (gap_none r (map (link_in u) ns) c.in-Err.field-0 (c.in-Err.ensures.absent.1 (subst AreSorted (sym e) sorted))) ∙ ap (find r) e
