use Rattle.std.proofs.Common.{◌≡◌, List, [], ◌∷◌, ◌++◌, map, option_map, Option, Some, None, sym, ap, ◌∙◌, subst}
use Rattle.std.proofs.lemmas.List.{map-append}
use Rattle.std.specs.Vec.Iter.{into_iter_items}
use Rattle.serde_json.specs.View.{view as data_view, items_view as data_items}
use Rattle.serde_json.specs.declared.value.Value.{Value as Parsed}
use Rattle.mg_value.specs.Value.{Value}
use Rattle.mg_value.specs.View.{view}
use Rattle.mg_face.specs.Bulk.{executed, refusals_of}
use Rattle.mg_face.specs.Numbers.{value_of}
use Rattle.mg_face.specs.Sorting.{IsSortedOut}
use Rattle.mg_face.proofs.BulkLemmas.{executed_next, refusal_next}
use Rattle.mg_face.proofs.bulk.sorted.Goals as goal

pub loop-document-preserved-in-Continue-branch-6 : goal.loop-document-preserved-in-Continue-branch-6
loop-document-preserved-in-Continue-branch-6 c =
    let l = c.loop-document in
    let d = data_view c.in-Some.document in
    let v = view c.in-Executed.value in
    let rest : List Parsed = into_iter_items c.next.new.self in
    let step : into_iter_items l.document-iterator ≡ c.in-Some.document ∷ rest = c.in-Some.ensures.steps.0 in
    let is : value_of d ≡ Some v = subst (IsSortedOut d) c.in-Executed.is c.in_ok-value.ensures in
    let found : List Value = map view l.found.items in
    let refusals : List (Option Value) = map (option_map view) l.refusals.items in
    record {
      can_next = tt;
      is_finite = tt;
      executed = l.invariant.executed ∙ ap (λ (ds : List Parsed). found ++ executed (data_items ds)) step
          ∙ executed_next found d (data_items rest) v is
          ∙ ap (λ (vs : List Value). vs ++ executed (data_items rest))
          (sym (ap (map view) c.in_ok-push-in-Executed.ensures.items ∙ map-append view l.found.items (c.in-Executed.value ∷ [])));
      refusals = l.invariant.refusals ∙ ap (λ (ds : List Parsed). refusals ++ refusals_of (data_items ds)) step
          ∙ refusal_next refusals d (data_items rest) v is
          ∙ ap (λ (ps : List (Option Value)). ps ++ refusals_of (data_items rest))
          (sym (ap (map (option_map view)) c.in_ok-push-in-Executed-2.ensures.items ∙ map-append (option_map view) l.refusals.items (None ∷ [])));
    }
