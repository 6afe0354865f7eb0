use Rattle.std.proofs.Common.{◌≡◌, ◌<◌, List, [], ◌∷◌, ◌++◌, map, refl, sym, ap, ap₂, ◌∙◌, subst, append_assoc, append-nil}
use Rattle.std.proofs.lemmas.List.{map-append}
use Rattle.std.specs.Vec.Iter.{into_iter_items}
use Rattle.mg_doc.specs.Document.{Edit}
use Rattle.mg_shard.specs.Dealt.{DraftsStandFor}
use Rattle.mg_shard.specs.Edits.{after_edit, after_edits, id_in, outcomes}
use Rattle.mg_engine.specs.Outcomes.{reply_in, id_view}
use Rattle.mg_engine.specs.declared.bulk.apply.EditOutcome.{EditOutcome}
use Rattle.mg_engine.proofs.Editing.{nothing, same_number}
use Rattle.mg_engine.proofs.bulk.apply.edit_all.Goals as goal

pushed : {A B : Type 0} (f : A → B) (xs : List A) (x : A) (rest : List B) → map f (xs ++ x ∷ []) ++ rest ≡ map f xs ++ f x ∷ rest
pushed f xs x rest = ap (λ ys. ys ++ rest) (map-append f xs (x ∷ [])) ∙ append_assoc (map f xs) (f x ∷ []) rest

pub loop-edit-init : goal.loop-edit-init
loop-edit-init g c =
    let none = c.in_ok-outcomes.ensures.items in
    let all = c.into_iter-edit-iterator.ensures.into_iter_gives.0 in
    record {
      can_next = tt;
      is_finite = tt;
      some = c.requires;
      ids = sym (ap₂ (λ (os : List EditOutcome) (es : List Edit). map id_view os ++ map id_in es) none all);
      before = refl;
      goes_on = λ hs st. (hs, st, ap (after_edits hs) (sym all), sym (ap₂ (λ (os : List EditOutcome) (es : List Edit). map reply_in os ++ outcomes hs es) none all));
    }

pub loop-edit-preserved : goal.loop-edit-preserved
loop-edit-preserved g c =
    let l = c.loop-edit in
    let e : Edit = c.in-Some.edit in
    let o : EditOutcome = c.in_ok-outcome.outcome in
    let made = l.outcomes.items in
    let rest : List Edit = into_iter_items c.next.new.self in
    let step : into_iter_items l.edit-iterator ≡ e ∷ rest = c.in-Some.ensures.steps.0 in
    record {
      can_next = tt;
      is_finite = tt;
      some = subst (λ n. 0 < n) (sym (same_number _ _ c.in_ok-outcome.ensures.before)) l.invariant.some;
      ids = l.invariant.ids ∙ ap (λ (es : List Edit). map id_view made ++ map id_in es) step ∙ ap (λ i. map id_view made ++ i ∷ map id_in rest) (sym c.in_ok-outcome.ensures.id)
          ∙ sym (ap (λ (os : List EditOutcome). map id_view os ++ map id_in rest) c.in_ok-push.ensures.items ∙ pushed id_view made o (map id_in rest));
      before = c.in_ok-outcome.ensures.before ∙ l.invariant.before;
      goes_on = λ hs st.
          let inv = l.invariant.goes_on hs st in
          let now = inv.0 in
          let left = outcomes (after_edit now e) rest in (
            after_edit now e,
            c.in_ok-outcome.ensures.stands now inv.1,
            inv.2 ∙ ap (after_edits now) step,
            inv.3 ∙ ap (λ (es : List Edit). map reply_in made ++ outcomes now es) step ∙ ap (λ r. map reply_in made ++ r ∷ left) (sym (c.in_ok-outcome.ensures.reply now inv.1))
                ∙ sym (ap (λ (os : List EditOutcome). map reply_in os ++ left) c.in_ok-push.ensures.items ∙ pushed reply_in made o left),
          );
    }

pub returns-clause-replies : goal.returns-clause-replies
returns-clause-replies g c = λ hs st.
    let l = c.loop-edit in
    let inv = l.invariant.goes_on hs st in
    let none : into_iter_items l.edit-iterator ≡ [] = nothing (into_iter_items l.edit-iterator) (sym l.edit-iterator.rest.ok.0 ∙ c.in-None.ensures.steps.0) in
    sym (inv.3 ∙ ap (λ (es : List Edit). map reply_in l.outcomes.items ++ outcomes inv.0 es) none ∙ append-nil (map reply_in l.outcomes.items))

pub returns-clause-ids : goal.returns-clause-ids
returns-clause-ids g c =
    let l = c.loop-edit in
    let none : into_iter_items l.edit-iterator ≡ [] = nothing (into_iter_items l.edit-iterator) (sym l.edit-iterator.rest.ok.0 ∙ c.in-None.ensures.steps.0) in
    sym (l.invariant.ids ∙ ap (λ (es : List Edit). map id_view l.outcomes.items ++ map id_in es) none ∙ append-nil (map id_view l.outcomes.items))

pub returns-clause-stands : goal.returns-clause-stands
returns-clause-stands g c = λ hs st.
    let l = c.loop-edit in
    let inv = l.invariant.goes_on hs st in
    let none : into_iter_items l.edit-iterator ≡ [] = nothing (into_iter_items l.edit-iterator) (sym l.edit-iterator.rest.ok.0 ∙ c.in-None.ensures.steps.0) in
    subst (λ m. DraftsStandFor (g.P.Placement.place c.args.placement.now) l.drafts m) (sym (inv.2 ∙ ap (after_edits inv.0) none)) inv.1

pub returns-clause-before : goal.returns-clause-before
returns-clause-before g c = c.loop-edit.invariant.before
