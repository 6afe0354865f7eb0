use Rattle.std.proofs.Common.{◌≡◌, ◌∙◌, rules, ℕ, List, [], ◌∷◌, map, string_bytes, ap, sym, subst}
use Rattle.mg_revtree.specs.Revision.{Revision, run_from}
use Rattle.mg_revtree.specs.History.{Link, links}
use Rattle.mg_revtree.specs.Tree.{AreKnownLinks}
use Rattle.mg_revtree.proofs.Firsts.{nothing_known}
use Rattle.mg_revtree.proofs.grown.links_of_first.Goals as goal

pub returns : goal.returns
returns c =
    let empty : AreKnownLinks c.new-known.result [] = subst (λ (ks : List Link). AreKnownLinks ks []) (sym c.new-known.ensures) nothing_known in
    let id : string_bytes c.in_ok-id.id ≡ c.rev.inside.id = search rules in
    let run : run_from c.rev.inside.pos (map string_bytes c.from_ref.result.now) ≡ c.args.rev.now ∷ [] = ap (λ ids. run_from c.rev.inside.pos (map string_bytes ids)) c.from_ref.ensures.value ∙ ap (λ (s : List ℕ). (let rs : List Revision = (c.rev.inside.pos, s) ∷ [] in rs)) id ∙ ap (λ (r : Revision). (let rs : List Revision = r ∷ [] in rs)) c.rev.view_is in
    subst (λ (rs : List Revision). AreKnownLinks c.join.new.self (links rs)) run (c.in_ok-join.ensures.joined [] empty)
