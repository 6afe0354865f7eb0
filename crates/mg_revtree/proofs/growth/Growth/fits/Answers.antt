use Rattle.std.proofs.Common.{map, string_bytes, sym, subst}
use Rattle.mg_revtree.specs.Revision.{run_from}
use Rattle.mg_revtree.specs.History.{links}
use Rattle.mg_revtree.specs.Growth.{tree_in}
use Rattle.mg_revtree.specs.declared.growth.Growth.{Growth}
use Rattle.mg_revtree.proofs.Firsts.{GiveNoParent, all_fit, alone_gives_none, none_give_none}
use Rattle.mg_revtree.proofs.growth.Growth.fits.Goals as goal

pub returns-in-Empty : goal.returns-in-Empty
returns-in-Empty c = λ ls nodes.
    sym (all_fit (tree_in c.args.self.now).links ls (links (run_from c.args.start (map string_bytes c.args.ids.now))) nodes (subst (λ (g : Growth). GiveNoParent (tree_in g).links) (sym c.in-Empty.is) none_give_none))

pub returns-in-First : goal.returns-in-First
returns-in-First c = λ ls nodes.
    sym (all_fit (tree_in c.args.self.now).links ls (links (run_from c.args.start (map string_bytes c.args.ids.now))) nodes (subst (λ (g : Growth). GiveNoParent (tree_in g).links) (sym c.in-First.is) (alone_gives_none c.in-First.field-0.rev)))
