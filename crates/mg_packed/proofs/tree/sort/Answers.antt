use Rattle.std.proofs.Common.{◌≡◌, ◌+◌, [], ◌∷◌, Option, Some, None, is_some, false, drop, option_and_then, refl, sym, ap, ◌∙◌, arith}
use Rattle.std.proofs.lemmas.List.{drop_more}
use Rattle.std.proofs.Math.Seq.{drop-length}
use Rattle.json.specs.Value.{members_view as tree_members}
use Rattle.serde_json.specs.Data as parsed
use Rattle.serde_json.specs.Read.{of_members}
use Rattle.mg_packed.specs.Sorted.{sorted_data}
use Rattle.mg_packed.proofs.Sorted.{sorted_put}
use Rattle.mg_packed.proofs.tree.sort.Goals as goal

none_from : {A : Type 0} (o : Option A) → is_some o ≡ false → o ≡ None
none_from None e = refl
none_from (Some x) e = absurd cc

pub loop-member-init : goal.loop-member-init
loop-member-init c = λ ds is.
    let same : Some parsed.no_members ≡ Some ds = ap sorted_data (sym c.new-sorted.ensures.empty) ∙ is in
    let none : parsed.no_members ≡ ds = cc in
    ap (of_members (tree_members c.args.members.now)) none

pub loop-member-preserved : goal.loop-member-preserved
loop-member-preserved c = λ all is.
    let l = c.loop-member in
    let ts = c.args.members.now in
    let m = c.member-item.result in
    let left = drop (l.member-index + 1) ts in
    let here : drop l.member-index ts ≡ m ∷ left = drop_more ts l.member-index m (omega arith) ∙ ap (λ y. y ∷ left) (sym c.member-item.is) in
    let s = sorted_put l.sorted.entries m.0 _ all (sym c.in_ok-replaced.ensures.old ∙ none_from c.in_ok-replaced.replaced (sym c.if-is_some.ensures)) (ap sorted_data (sym c.in_ok-replaced.ensures.entries) ∙ is) in
    l.invariant s.0 s.2
    ∙ ap (λ xs. of_members (tree_members xs) s.0) here
    ∙ ap (option_and_then (λ d. of_members (tree_members left) (parsed.put m.0.now d s.0))) s.3
    ∙ ap (of_members (tree_members left)) s.4

pub returns : goal.returns
returns c = λ ds is.
    let ts = c.args.members.now in
    let end : drop c.loop-member.member-index ts ≡ [] = ap (λ n. drop n ts) (omega arith) ∙ drop-length ts in
    c.loop-member.invariant ds is ∙ ap (λ xs. of_members (tree_members xs) ds) end
