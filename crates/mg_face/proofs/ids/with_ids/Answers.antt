use Rattle.std.proofs.Common.{◌≡◌, List, [], ◌∷◌, ◌++◌, map, sym, ap, ap₂, ◌∙◌, append_assoc, append-nil}
use Rattle.std.proofs.lemmas.List.{map-append}
use Rattle.std.specs.Vec.Iter.{into_iter_items}
use Rattle.mg_value.specs.Value.{Value}
use Rattle.mg_value.specs.View.{view}
use Rattle.mg_value.specs.declared.value.Json.{Json}
use Rattle.mg_face.specs.Ids.{number_after, with_ids}
use Rattle.mg_face.proofs.ItemLemmas.{nothing}
use Rattle.mg_face.proofs.ids.with_ids.Goals as goal

pub loop-document-init : goal.loop-document-init
loop-document-init c =
    let all = c.into_iter-document-iterator.ensures.into_iter_gives.0 in
    record {
      can_next = tt;
      is_finite = tt;
      documents = sym (ap₂ (λ (ds : List Json) (es : List Json). map view ds ++ with_ids c.args.first (map view es)) c.in_ok-found.ensures.items all);
    }

pub loop-document-preserved : goal.loop-document-preserved
loop-document-preserved c =
    let l = c.loop-document in
    let d : Json = c.in-Some.document in
    let made : Json = c.in_ok-named.named in
    let found : List Value = map view l.found.items in
    let rest : List Json = into_iter_items c.next.new.self in
    let step : into_iter_items l.document-iterator ≡ d ∷ rest = c.in-Some.ensures.steps.0 in
    let later : List Value = with_ids (number_after l.number) (map view rest) in
    let pushed : map view (l.found.items ++ made ∷ []) ≡ found ++ (view made ∷ []) = map-append view l.found.items (made ∷ []) in
    record {
      can_next = tt;
      is_finite = tt;
      documents = l.invariant.documents ∙ ap (λ (es : List Json). found ++ with_ids l.number (map view es)) step
          ∙ ap (λ (w : Value). found ++ (w ∷ later)) (sym c.in_ok-named.ensures)
          ∙ sym (append_assoc found (view made ∷ []) later)
          ∙ ap (λ (vs : List Value). vs ++ later) (sym (ap (map view) c.in_ok-push.ensures.items ∙ pushed));
    }

pub returns : goal.returns
returns c =
    let l = c.loop-document in
    let none : into_iter_items l.document-iterator ≡ [] = nothing (into_iter_items l.document-iterator) (sym l.document-iterator.rest.ok.0 ∙ c.in-None.ensures.steps.0) in
    sym (l.invariant.documents ∙ ap (λ (es : List Json). map view l.found.items ++ with_ids l.number (map view es)) none ∙ append-nil (map view l.found.items))
