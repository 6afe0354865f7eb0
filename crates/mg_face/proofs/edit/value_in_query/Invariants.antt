use Rattle.std.proofs.Common.{◌≡◌}
use Rattle.form_urlencoded.specs.Parse.{raw_pairs_left}
use Rattle.mg_face.specs.Edit.{value_in_pairs, value_in_query}
use Rattle.mg_face.proofs.edit.value_in_query.Given as goal

abbrev pub invariant-loop-encoded : goal.invariant-loop-encoded
invariant-loop-encoded l = value_in_pairs l.name (raw_pairs_left l.encoded-iterator) ≡ value_in_query l.name l.query
