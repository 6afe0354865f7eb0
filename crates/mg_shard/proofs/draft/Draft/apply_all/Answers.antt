use Rattle.std.proofs.Common.{◌≡◌, ◌+◌, ◌<◌, ◌++◌, List, [], ◌∷◌, ℕ, drop, get_or, length, map, refl, ap, sym, ◌∙◌, subst, drop-cons, add-one}
use Rattle.std.proofs.Math.ListN.{drop_of_length-le}
use Rattle.mg_shard.specs.Draft.{DraftStandsFor}
use Rattle.mg_shard.specs.Edits.{after_edit, after_edits, outcome_view, outcomes}
use Rattle.mg_shard.specs.Histories.{Histories}
use Rattle.mg_shard.proofs.draft.Draft.apply_all.Goals as goal

-- the elements from place i on are the element i and those after it
drop_item : {A : Type 0} (xs : List A) (i : ℕ) (x : A) → i < length xs → x ≡ get_or xs i x → drop i xs ≡ x ∷ drop (i + 1) xs
drop_item xs i x h e = drop-cons xs i x h ∙ rw (add-one, ← e)

pushed : {A B : Type 0} (f : A → B) (xs : List A) (x : A) (rest : List B) → map f (xs ++ x ∷ []) ++ rest ≡ map f xs ++ f x ∷ rest
pushed f [] x rest = refl
pushed f (y ∷ xs) x rest = ap (λ ys. f y ∷ ys) (pushed f xs x rest)

no_more : {A : Type 0} (xs : List A) → xs ++ [] ≡ xs
no_more [] = refl
no_more (x ∷ xs) = ap (λ ys. x ∷ ys) (no_more xs)

pub loop-edit-init : goal.loop-edit-init
loop-edit-init c = record {
  shard = refl;
  goes_on = λ hs st. (hs, st, refl, ap (λ rs. map outcome_view rs ++ outcomes hs c.args.edits.now) (sym c.in_ok-replies.ensures.items));
}

pub loop-edit-preserved : goal.loop-edit-preserved
loop-edit-preserved c =
    let l = c.loop-edit in
    let e = c.in_ok-copy.copy in
    let left = drop (l.edit-index + 1) c.args.edits.now in
    let step : drop l.edit-index c.args.edits.now ≡ e ∷ left = drop_item c.args.edits.now l.edit-index c.edit-item.result c.loop-edit-test.true c.edit-item.is ∙ ap (λ x. x ∷ left) (sym c.in_ok-copy.ensures) in
    record {
      shard = c.in_ok-reply.ensures.shard ∙ l.invariant.shard;
      goes_on = λ hs st.
          let inv = l.invariant.goes_on hs st in
          let now = inv.0 in
          let told = map outcome_view l.replies.items in
          let did = c.in_ok-reply.ensures.outcome now inv.1 in
          let rest = outcomes (after_edit now e) left in (
            after_edit now e,
            c.in_ok-reply.ensures.stands now inv.1,
            inv.2 ∙ ap (after_edits now) step,
            inv.3 ∙ ap (λ es. told ++ outcomes now es) step ∙ ap (λ o. told ++ o ∷ rest) (sym did)
                ∙ sym (ap (λ rs. map outcome_view rs ++ rest) c.in_ok-push.ensures.items ∙ pushed outcome_view l.replies.items c.in_ok-reply.reply rest),
          );
    }

pub returns-clause-outcomes : goal.returns-clause-outcomes
returns-clause-outcomes c = λ hs st.
    let l = c.loop-edit in
    let inv = l.invariant.goes_on hs st in
    let none : drop l.edit-index c.args.edits.now ≡ [] = drop_of_length-le c.args.edits.now c.loop-edit-test.false in
    sym (inv.3 ∙ ap (λ es. map outcome_view l.replies.items ++ outcomes inv.0 es) none ∙ no_more (map outcome_view l.replies.items))

pub returns-clause-stands : goal.returns-clause-stands
returns-clause-stands c = λ hs st.
    let l = c.loop-edit in
    let inv = l.invariant.goes_on hs st in
    let none : drop l.edit-index c.args.edits.now ≡ [] = drop_of_length-le c.args.edits.now c.loop-edit-test.false in
    let over : inv.0 ≡ after_edits hs c.args.edits.now = sym (inv.2 ∙ ap (after_edits inv.0) none) in
    subst (λ (m : Histories). DraftStandsFor l.self m) over inv.1
