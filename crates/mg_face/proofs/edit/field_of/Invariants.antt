use Rattle.std.proofs.Common.{◌≡◌, map, take, None}
use Rattle.std.specs.Prelude.{find}
use Rattle.http1.specs.Text.{eq_ignore_case}
use Rattle.mg_wire.specs.Request.{field_parts}
use Rattle.mg_face.proofs.edit.field_of.Given as goal

abbrev pub invariant-loop-field : goal.invariant-loop-field
invariant-loop-field l = find (λ h. eq_ignore_case h.0 l.name) (map field_parts (take l.field-index l.fields)) ≡ None
