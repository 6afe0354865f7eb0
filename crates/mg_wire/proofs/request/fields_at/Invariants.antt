use Rattle.std.proofs.Common.{◌≡◌, take, map}
use Rattle.httparse.specs.Spans.{header_bytes}
use Rattle.mg_wire.specs.Request.{field_parts}
use Rattle.mg_wire.proofs.request.fields_at.Given as goal

abbrev pub invariant-loop-span : goal.invariant-loop-span
invariant-loop-span l = map field_parts l.fields.items ≡ map (header_bytes l.head) (take l.span-index l.spans)
