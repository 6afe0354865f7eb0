use Rattle.std.proofs.Common.{◌≡◌, ℕ, List, [], ◌∷◌, ◌++◌, sym, ap, ap₂, ◌∙◌, append_assoc, append-nil}
use Rattle.std.specs.Vec.Iter.{into_iter_items}
use Rattle.mg_doc.specs.Document.{Edit}
use Rattle.mg_engine.specs.Bulk.{counter_after, numbered}
use Rattle.mg_engine.proofs.Counter.{counter_cons, numbered_cons}
use Rattle.mg_engine.proofs.Editing.{nothing}
use Rattle.mg_engine.proofs.bulk.number.number_edits.Goals as goal

pub loop-edit-init : goal.loop-edit-init
loop-edit-init c =
    let all = c.into_iter-edit-iterator.ensures.into_iter_gives.0 in
    record {
      can_next = tt;
      is_finite = tt;
      edits = sym (ap₂ (λ (ds : List Edit) (es : List Edit). ds ++ numbered c.args.last es) c.in_ok-found.ensures.items all);
      counter = sym (ap (λ (es : List Edit). counter_after c.args.last es) all);
    }

pub loop-edit-preserved : goal.loop-edit-preserved
loop-edit-preserved c =
    let l = c.loop-edit in
    let e : Edit = c.in-Some.edit in
    let made : Edit = c.in_ok-edit.edit in
    let found = l.found.items in
    let rest : List Edit = into_iter_items c.next.new.self in
    let step : into_iter_items l.edit-iterator ≡ e ∷ rest = c.in-Some.ensures.steps.0 in
    record {
      can_next = tt;
      is_finite = tt;
      edits = l.invariant.edits ∙ ap (λ (es : List Edit). found ++ numbered l.number es) step ∙ ap (λ (es : List Edit). found ++ es) (numbered_cons l.number e rest)
          ∙ ap₂ (λ (d : Edit) (n : ℕ). found ++ d ∷ numbered n rest) (sym c.in_ok-edit.ensures.edit) (sym c.in_ok-edit.ensures.last)
          ∙ sym (ap (λ (es : List Edit). es ++ numbered c.in_ok-edit.given rest) c.in_ok-push.ensures.items ∙ append_assoc found (made ∷ []) (numbered c.in_ok-edit.given rest));
      counter = l.invariant.counter ∙ ap (λ (es : List Edit). counter_after l.number es) step ∙ counter_cons l.number e rest
          ∙ ap (λ (n : ℕ). counter_after n rest) (sym c.in_ok-edit.ensures.last);
    }

pub returns-clause-edits : goal.returns-clause-edits
returns-clause-edits c =
    let l = c.loop-edit in
    let none : into_iter_items l.edit-iterator ≡ [] = nothing (into_iter_items l.edit-iterator) (sym l.edit-iterator.rest.ok.0 ∙ c.in-None.ensures.steps.0) in
    sym (l.invariant.edits ∙ ap (λ (es : List Edit). l.found.items ++ numbered l.number es) none ∙ append-nil l.found.items)

pub returns-clause-last : goal.returns-clause-last
returns-clause-last c =
    let l = c.loop-edit in
    let none : into_iter_items l.edit-iterator ≡ [] = nothing (into_iter_items l.edit-iterator) (sym l.edit-iterator.rest.ok.0 ∙ c.in-None.ensures.steps.0) in
    sym (l.invariant.counter ∙ ap (λ (es : List Edit). counter_after l.number es) none)
