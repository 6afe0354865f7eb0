use Rattle.std.proofs.Common.{◌≡◌, map, take, true}
use Rattle.std.specs.List.{list_all}
use Rattle.httparse.specs.Spans.{header_bytes}
use Rattle.mg_http.specs.Fields.{agrees_on_length}
use Rattle.mg_http.proofs.request.fields.all_agree.Given as goal

abbrev pub invariant-loop-field : goal.invariant-loop-field
invariant-loop-field l = list_all (agrees_on_length l.text) (map (header_bytes l.bytes) (take l.field-index l.fields)) ≡ true
