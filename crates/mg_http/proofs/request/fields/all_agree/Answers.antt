use Rattle.std.proofs.Common.{sym}
use Rattle.httparse.specs.Spans.{header_bytes}
use Rattle.httparse.specs.declared.spans.HeaderSpan.{HeaderSpan}
use Rattle.mg_http.specs.Fields.{agrees_on_length}
use Rattle.mg_http.proofs.ListLemmas.{all_fails_at}
use Rattle.mg_http.proofs.request.fields.all_agree.Goals as goal

blank : HeaderSpan
blank = record { name = record { start = 0; end = 0 }; value = record { start = 0; end = 0 } }

pub returns-then-not-agrees_on_length : goal.returns-then-not-agrees_on_length
unfolding blank
returns-then-not-agrees_on_length c =
    let here = rw (c.of.ensures, c.of-in-loop-field.ensures) at c.if-not-agrees_on_length.ensures in
    sym (all_fails_at (header_bytes c.args.bytes.now) (agrees_on_length c.args.text.now) c.args.fields.now c.loop-field.field-index blank c.loop-field-test.true (sym here))
