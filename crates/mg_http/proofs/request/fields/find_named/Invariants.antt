use Rattle.std.proofs.Common.{◌≡◌, map, find, take, None}
use Rattle.httparse.specs.Spans.{header_bytes}
use Rattle.mg_http.specs.Fields.{is_named}
use Rattle.mg_http.proofs.request.fields.find_named.Given as goal

abbrev pub invariant-loop-field : goal.invariant-loop-field
invariant-loop-field l = find (is_named l.name) (map (header_bytes l.bytes) (take l.field-index l.fields)) ≡ None
