use Rattle.std.proofs.Common.{◌≡◌, map, take, false}
use Rattle.std.specs.List.{list_any}
use Rattle.httparse.specs.Spans.{header_bytes}
use Rattle.mg_http.specs.Fields.{is_named}
use Rattle.mg_http.proofs.request.fields.has_field.Given as goal

abbrev pub invariant-loop-field : goal.invariant-loop-field
invariant-loop-field l = list_any (is_named l.name) (map (header_bytes l.bytes) (take l.field-index l.fields)) ≡ false
