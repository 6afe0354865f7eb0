use Rattle.std.proofs.Common.{◌≡◌, ◌+◌, ◌≤◌, ◌∷◌, length, take, map}
use Rattle.std.specs.Prelude.{codes}
use Rattle.http1.specs.Head.{pairs}
use Rattle.mg_wire.specs.Request.{field_parts}
use Rattle.mg_wire.proofs.reply.headers_of.Given as goal

abbrev pub invariant-loop-field : goal.invariant-loop-field
invariant-loop-field l = record {
  counted : l.count ≡ l.field-index + 1;
  all : length l.headers ≡ 17;
  room : l.count ≤ 17;
  same : pairs (take l.count l.headers) ≡ (codes "date", l.date) ∷ map field_parts (take l.field-index l.fields);
}
