use Rattle.std.proofs.Common.{sym}
use Rattle.httparse.specs.Spans.{header_bytes}
use Rattle.httparse.specs.declared.spans.HeaderSpan.{HeaderSpan}
use Rattle.std.proofs.lemmas.Bool.{and_from}
use Rattle.mg_http.specs.Fields.{asks_close}
use Rattle.mg_http.proofs.ListLemmas.{any_at}
use Rattle.mg_http.proofs.request.fields.asks_close.Goals as goal

blank : HeaderSpan
blank = record { name = record { start = 0; end = 0 }; value = record { start = 0; end = 0 } }

pub returns-then-has_close : goal.returns-then-has_close
unfolding blank
returns-then-has_close c =
    let named = rw c.of.ensures at c.if-same_name.ensures in
    let closes = rw c.of-then-same_name.ensures at c.if-has_close.ensures in
    sym (any_at (header_bytes c.args.bytes.now) asks_close c.args.fields.now c.loop-field.field-index blank c.loop-field-test.true (and_from _ _ (sym named) (sym closes)))
