use Rattle.std.proofs.Common.{◌≡◌, ℕ, suc, ◌+◌, ◌-◌, List, [], ◌∷◌, ◌++◌, map, sym, ap, ◌∙◌, string_bytes, append_assoc, append-nil, arith, rules}
use Rattle.std.proofs.lemmas.List.{map-append}
use Rattle.mg_value.specs.Value.{Value, text}
use Rattle.mg_value.specs.View.{view}
use Rattle.mg_value.specs.declared.value.Json as Json
use Rattle.mg_value.specs.declared.value.Json.{the_lemmas}
use Rattle.mg_face.specs.Ids.{id_list, id_text, number_after}
use Rattle.mg_face.proofs.ids.id_list.Goals as goal

pub loop-preserved : goal.loop-preserved
loop-preserved c =
    let l = c.loop in
    let left : c.args.count - l.counter ≡ suc (c.args.count - (l.counter + 1)) = omega arith in
    let found : List Value = map view l.found.items in
    let later : List Value = map text (id_list (number_after l.number) (c.args.count - (l.counter + 1))) in
    let here : Value = text (id_text l.number) in
    let viewed : view (Json.Text c.in_ok-id.id) ≡ here = (let same : view (Json.Text c.in_ok-id.id) ≡ text (string_bytes c.in_ok-id.id) = search (rules, the_lemmas) in same ∙ ap text c.in_ok-id.ensures) in
    l.invariant ∙ ap (λ (k : ℕ). found ++ map text (id_list l.number k)) left
    ∙ sym (append_assoc found (here ∷ []) later)
    ∙ ap (λ (vs : List Value). vs ++ later)
    (sym (ap (map view) c.in_ok-push.ensures.items ∙ map-append view l.found.items (Json.Text c.in_ok-id.id ∷ []) ∙ ap (λ (w : Value). found ++ (w ∷ [])) viewed))

pub returns : goal.returns
returns c =
    let l = c.loop in
    let none : c.args.count - l.counter ≡ 0 = omega arith in
    sym (l.invariant ∙ ap (λ (k : ℕ). map view l.found.items ++ map text (id_list l.number k)) none ∙ append-nil (map view l.found.items))
