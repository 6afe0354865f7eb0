use Rattle.std.proofs.Common.{ap, ◌∙◌, sym, List, ℕ}
use Rattle.std.specs.Str.{str_eq_ignore_ascii_case}
use Rattle.httparse.specs.Spans.{header_bytes}
use Rattle.httparse.specs.declared.spans.HeaderSpan.{HeaderSpan}
use Rattle.mg_http.specs.Fields.{is_named}
use Rattle.mg_http.proofs.ListLemmas.{any_at}
use Rattle.mg_http.proofs.request.fields.has_field.Goals as goal

blank : HeaderSpan
blank = record { name = record { start = 0; end = 0 }; value = record { start = 0; end = 0 } }

pub returns-then-same_name : goal.returns-then-same_name
unfolding blank
returns-then-same_name c =
    let named = ap (λ (t : List ℕ). str_eq_ignore_ascii_case t c.args.name.now) (sym c.of.ensures) ∙ sym c.if-same_name.ensures in
    sym (any_at (header_bytes c.args.bytes.now) (is_named c.args.name.now) c.args.fields.now c.loop-field.field-index blank c.loop-field-test.true named)
