use Rattle.std.proofs.Common.{◌≡◌, List, [], ◌∷◌, map, sym, ap, ap₂, ◌∙◌}
use Rattle.std.specs.Vec.Iter.{into_iter_items}
use Rattle.mg_value.specs.Value.{Value}
use Rattle.mg_value.specs.View.{view}
use Rattle.mg_value.specs.declared.value.Json.{Json}
use Rattle.mg_engine.specs.Design.{with_firsts}
use Rattle.mg_engine.proofs.Editing.{nothing}
use Rattle.mg_engine.proofs.design.with_firsts.Goals as goal

pub loop-value-init : goal.loop-value-init
loop-value-init c =
    let all = c.into_iter-value-iterator.ensures.into_iter_gives.0 in
    record {
      can_next = tt;
      is_finite = tt;
      merged = sym (ap₂ (λ (vs : List Json) (v : Value). with_firsts (map view vs) v) all c.empty_object-merged.ensures);
    }

pub loop-value-preserved : goal.loop-value-preserved
loop-value-preserved c =
    let l = c.loop-value in
    let v : Json = c.in-Some.value in
    let rest : List Json = into_iter_items c.next.new.self in
    let step : into_iter_items l.value-iterator ≡ v ∷ rest = c.in-Some.ensures.steps.0 in
    record {
      can_next = tt;
      is_finite = tt;
      merged = l.invariant.merged ∙ ap (λ (vs : List Json). with_firsts (map view vs) (view l.merged)) step
          ∙ ap (λ (w : Value). with_firsts (map view rest) w) (sym c.in_ok-next.ensures);
    }

pub returns : goal.returns
returns c =
    let l = c.loop-value in
    let none : into_iter_items l.value-iterator ≡ [] = nothing (into_iter_items l.value-iterator) (sym l.value-iterator.rest.ok.0 ∙ c.in-None.ensures.steps.0) in
    sym (l.invariant.merged ∙ ap (λ (vs : List Json). with_firsts (map view vs) (view l.merged)) none)
