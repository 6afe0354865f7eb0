use Rattle.std.proofs.Common.{◌∙◌, length, refl, sym, subst, arith}
use Rattle.mg_revtree.specs.Tree.{AreSorted}
use Rattle.mg_revtree.specs.declared.links.node.Node.{Node}
use Rattle.mg_revtree.proofs.Folds.{same_link}
use Rattle.mg_revtree.proofs.Texts.{grown-length, grown-links, grown-part, within-more}
use Rattle.mg_revtree.proofs.links.fold.node_for.Goals as goal

pub returns-clause-within : goal.returns-clause-within
returns-clause-within c = λ older made.
    let t = c.args.texts.now.items in
    let t1 = c.part_among.new.texts.items in
    let t2 = c.parent_for.new.texts.items in
    let longer = grown-length t1 t2 c.in_ok-parent.ensures.grows in
    let id = c.in_ok-id.ensures.within older made in
    let more = within-more (length t) (length t1) (grown-length t t1 c.in_ok-id.ensures.grows) in
    (omega (arith, longer, id), c.in_ok-parent.ensures.within (more c.args.older.now older) (more c.args.made.now made))

pub returns-clause-link : goal.returns-clause-link
returns-clause-link c = λ older made sorted ordered.
    let t = c.args.texts.now.items in
    let t1 = c.part_among.new.texts.items in
    let t2 = c.parent_for.new.texts.items in
    let x : Node = record { pos = c.args.node.pos; id = c.in_ok-id.id; parent = c.in_ok-parent.parent } in
    let id = grown-part t1 t2 c.in_ok-parent.ensures.grows c.in_ok-id.id (c.in_ok-id.ensures.within older made) ∙ c.in_ok-id.ensures.part sorted ordered ∙ c.of.ensures in
    let same = grown-links t t1 c.in_ok-id.ensures.grows in
    let parent = c.in_ok-parent.ensures.part (subst AreSorted (sym (same c.args.older.now older)) sorted) (subst AreSorted (sym (same c.args.made.now made)) ordered) in
    same_link t2 c.args.other.now x c.args.node refl id parent
