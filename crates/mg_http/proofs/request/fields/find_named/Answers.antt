use Rattle.std.proofs.Common.{ap, ◌∙◌, sym, add-one, List, ℕ, Some}
use Rattle.std.specs.Str.{str_eq_ignore_ascii_case}
use Rattle.std.specs.Option.{option_map}
use Rattle.httparse.specs.Spans.{header_bytes}
use Rattle.httparse.specs.declared.spans.HeaderSpan.{HeaderSpan}
use Rattle.mg_http.specs.Fields.{Field, is_named}
use Rattle.mg_http.proofs.ListLemmas.{find_at, find_not}
use Rattle.mg_http.proofs.request.fields.find_named.Goals as goal

blank : HeaderSpan
blank = record { name = record { start = 0; end = 0 }; value = record { start = 0; end = 0 } }

pub returns-then-same_name : goal.returns-then-same_name
unfolding blank
returns-then-same_name c =
    let named = ap (λ (t : List ℕ). str_eq_ignore_ascii_case t c.args.name.now) (sym c.of.ensures) ∙ sym c.if-same_name.ensures in
    let found = find_at (header_bytes c.args.bytes.now) (is_named c.args.name.now) c.args.fields.now c.loop-field.field-index blank c.loop-field-test.true c.loop-field.invariant named in
    ap Some c.of-then-same_name.ensures ∙ sym (ap (option_map (λ (f : Field). f.1)) found)

pub loop-field-preserved : goal.loop-field-preserved
unfolding blank
loop-field-preserved c =
    let named = ap (λ (t : List ℕ). str_eq_ignore_ascii_case t c.args.name.now) (sym c.of.ensures) ∙ sym c.if-same_name.ensures in
    rw add-one (find_not (header_bytes c.args.bytes.now) (is_named c.args.name.now) c.args.fields.now c.loop-field.field-index blank c.loop-field-test.true c.loop-field.invariant named)
