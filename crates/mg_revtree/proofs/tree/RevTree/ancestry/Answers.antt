use Rattle.std.proofs.Common.{◌≡◌, ◌<◌, ◌-◌, ◌++◌, ◌∷◌, ◌∙◌, [], ℕ, List, String, Global, None, ap, ap₂, arith, map, string_bytes, subst, sym}
use Rattle.std.proofs.lemmas.List.{map-append}
use Rattle.mg_revtree.specs.Ancestry.{ancestry, lineage}
use Rattle.mg_revtree.specs.Growth.{tree_in}
use Rattle.mg_revtree.specs.History.{all_links}
use Rattle.mg_revtree.specs.Tree.{StandsFor, Tree}
use Rattle.mg_revtree.proofs.Ancestors.{oldest, one_older}
use Rattle.mg_revtree.proofs.tree.RevTree.ancestry.Goals as goal

-- the ids after one more
pushed : (xs ys : List (String Global)) (t : String Global) (id : List ℕ) → ys ≡ xs ++ t ∷ [] → string_bytes t ≡ id → map string_bytes ys ≡ map string_bytes xs ++ id ∷ []
pushed xs ys t id is same = ap (map string_bytes) is ∙ map-append string_bytes xs (t ∷ []) ∙ ap (λ i. map string_bytes xs ++ i ∷ []) same

pub returns-in_default : goal.returns-in_default
returns-in_default c = λ h stands.
    let l = c.loop-pos in
    let some : 0 < l.pos = omega (arith, c.loop-pos-test.true) in
    let s : StandsFor (tree_in c.self.inside.growth) h = subst (λ (t : Tree). StandsFor t h) (sym c.self.view_is) stands in
    pushed l.ids.items c.push.new.self.items c.in_ok-text_of.field-0 l.id.now c.in_ok-push.ensures.items c.in_ok-text_of.ensures
    ∙ sym (oldest (tree_in c.self.inside.growth).links (all_links h) l.pos l.id.now (map (λ r. r.1) (ancestry h c.args.rev.now)) (map string_bytes l.ids.items) s.known some c.in_default.ensures (l.invariant h stands))

pub loop-pos-preserved : goal.loop-pos-preserved
loop-pos-preserved c = λ h stands.
    let l = c.loop-pos in
    let p = c.in-Some.parent.now in
    let some : 0 < l.pos = omega (arith, c.loop-pos-test.true) in
    let s : StandsFor (tree_in c.self.inside.growth) h = subst (λ (t : Tree). StandsFor t h) (sym c.self.view_is) stands in
    one_older (tree_in c.self.inside.growth).links (all_links h) l.pos l.id.now p (map (λ r. r.1) (ancestry h c.args.rev.now)) (map string_bytes l.ids.items) s.known some c.in-Some.ensures (l.invariant h stands)
    ∙ ap (λ ids. ids ++ map (λ r. r.1) (lineage (all_links h) (l.pos - 1) (l.pos - 1, p))) (sym (pushed l.ids.items c.push.new.self.items c.in_ok-text_of.field-0 l.id.now c.in_ok-push.ensures.items c.in_ok-text_of.ensures))
