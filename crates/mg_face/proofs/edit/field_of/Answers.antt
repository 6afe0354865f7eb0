use Rattle.std.proofs.Common.{◌≡◌, ℕ, List, true, false, ap, ◌∙◌, sym, add-one, Some}
use Rattle.std.specs.Option.{option_map}
use Rattle.http1.specs.Fields.{Header}
use Rattle.http1.specs.Text.{eq_ignore_case}
use Rattle.mg_wire.specs.declared.request.Field.{Field}
use Rattle.mg_wire.specs.Request.{field_parts}
use Rattle.mg_http.proofs.ListLemmas.{find_at, find_not}
use Rattle.mg_face.proofs.edit.field_of.Goals as goal

pub returns-then-eq_ignore_case : goal.returns-then-eq_ignore_case
returns-then-eq_ignore_case c =
    let item = c.field-item.result in
    let here : eq_ignore_case item.name c.args.name.now ≡ true = ap (λ (t : List ℕ). eq_ignore_case t c.args.name.now) (sym c.as_slice.ensures) ∙ sym c.if-eq_ignore_case.ensures in
    let named : eq_ignore_case (field_parts item).0 c.args.name.now ≡ true = here in
    let found =
    find_at field_parts (λ (h : Header). eq_ignore_case h.0 c.args.name.now) c.args.fields.now c.loop-field.field-index item c.loop-field-test.true c.loop-field.invariant (rw (← c.field-item.is) named) in
    ap Some c.as_slice-then-eq_ignore_case.ensures ∙ ap (λ (x : Field). Some x.value) c.field-item.is ∙ sym (ap (option_map (λ (h : Header). h.1)) found)

pub loop-field-preserved : goal.loop-field-preserved
loop-field-preserved c =
    let item = c.field-item.result in
    let here : eq_ignore_case item.name c.args.name.now ≡ false = ap (λ (t : List ℕ). eq_ignore_case t c.args.name.now) (sym c.as_slice.ensures) ∙ sym c.if-eq_ignore_case.ensures in
    rw add-one (find_not field_parts (λ (h : Header). eq_ignore_case h.0 c.args.name.now) c.args.fields.now c.loop-field.field-index item c.loop-field-test.true c.loop-field.invariant (rw (← c.field-item.is) here))
