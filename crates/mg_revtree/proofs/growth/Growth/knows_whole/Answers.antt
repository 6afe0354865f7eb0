use Rattle.std.proofs.Common.{◌≡◌, ◌∙◌, ◌<◌, length, map, string_bytes, ap, subst, arith}
use Rattle.mg_revtree.specs.Revision.{Revision, run_from}
use Rattle.mg_revtree.specs.History.{Leaf}
use Rattle.mg_revtree.specs.Growth.{is_run_of, tree_in}
use Rattle.mg_revtree.specs.Tree.{AreKnownLinks}
use Rattle.mg_revtree.specs.declared.growth.Growth.{Growth}
use Rattle.mg_revtree.proofs.Firsts.{alone_held, none_held}
use Rattle.mg_revtree.proofs.Runs.{length-map}
use Rattle.mg_revtree.proofs.growth.Growth.knows_whole.Goals as goal

pub returns-in-Empty : goal.returns-in-Empty
returns-in-Empty c = λ ls nodes.
    let some : 0 < length (map string_bytes c.args.ids.now) = omega (arith, length-map string_bytes c.args.ids.now, c.requires) in
    none_held c.args.start (map string_bytes c.args.ids.now) ls some (subst (λ (g : Growth). AreKnownLinks (tree_in g).links ls) c.in-Empty.is nodes)

pub returns-in-First : goal.returns-in-First
returns-in-First c = λ ls nodes.
    let some : 0 < length (map string_bytes c.args.ids.now) = omega (arith, length-map string_bytes c.args.ids.now, c.requires) in
    let rev : c.behind-leaf.inside.rev ≡ c.in-First.leaf.rev = ap (λ (l : Leaf). l.rev) (c.behind-leaf.view_is ∙ c.leaf.ensures) in
    c.is_run_of.ensures ∙ ap (λ (q : Revision). is_run_of q (run_from c.args.start (map string_bytes c.args.ids.now))) rev
    ∙ alone_held c.in-First.leaf.rev c.args.start (map string_bytes c.args.ids.now) ls some (subst (λ (g : Growth). AreKnownLinks (tree_in g).links ls) c.in-First.is nodes)
