use Rattle.std.proofs.Common.{◌∙◌, ◌-◌, ℕ, Bor, List, Option, Some, ap, option_copied, option_map, sym}
use Rattle.mg_revtree.specs.Known.{parent_below}
use Rattle.mg_revtree.proofs.Kept.{found_both, found_newer, found_older, parent_flat}
use Rattle.mg_revtree.proofs.links.known.KnownLinksLookUp.look_up_parent.Goals as goal

pub returns-in-Some-Some : goal.returns-in-Some-Some
returns-in-Some-Some c =
    let inv = c.self.invariant in
    found_older c.self.inside.older c.self.inside.newer c.args.self.now inv.0 inv.1 c.self.view_is (c.args.pos, c.args.id.now) (c.args.pos - 1, c.in-Some-Some.parent.now) (ap (λ (o : Option (Bor (List ℕ))). Some (parent_below c.args.pos (option_copied o))) (sym c.in-Some-Some.field-0-is) ∙ c.in-Some-Some.ensures inv.0)

pub returns-in-Some-None : goal.returns-in-Some-None
returns-in-Some-None c =
    let inv = c.self.invariant in
    let w = c.look_up_parent-in-Some-None.result in
    let flat = ap (λ o. parent_below c.args.pos (option_copied o)) c.flatten.ensures ∙ parent_flat c.args.pos w in
    ap Some flat ∙ found_both c.self.inside.older c.self.inside.newer c.args.self.now inv.0 inv.1 c.self.view_is (c.args.pos, c.args.id.now) (option_map (λ p. parent_below c.args.pos (option_copied p)) w) (ap (λ (o : Option (Bor (List ℕ))). Some (parent_below c.args.pos (option_copied o))) (sym c.in-Some-None.field-0-is) ∙ c.in-Some-None.ensures inv.0) (c.look_up_parent-in-Some-None.ensures inv.1)

pub returns-in-None : goal.returns-in-None
returns-in-None c =
    let inv = c.self.invariant in
    found_newer c.self.inside.older c.self.inside.newer c.args.self.now inv.0 inv.1 c.self.view_is (c.args.pos, c.args.id.now) (option_map (λ p. parent_below c.args.pos (option_copied p)) c.look_up_parent-in-None.result) (c.in-None.ensures inv.0) (c.look_up_parent-in-None.ensures inv.1)
