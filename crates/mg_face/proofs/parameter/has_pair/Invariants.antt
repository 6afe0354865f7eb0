use Rattle.std.proofs.Common.{◌≡◌}
use Rattle.std.specs.List.{list_any}
use Rattle.form_urlencoded.specs.Parse.{raw_pairs_left}
use Rattle.mg_face.specs.Parameters.{gives, has_pair}
use Rattle.mg_face.proofs.parameter.has_pair.Given as goal

abbrev pub invariant-loop-encoded : goal.invariant-loop-encoded
invariant-loop-encoded l = list_any (gives l.name l.value) (raw_pairs_left l.encoded-iterator) ≡ has_pair l.name l.value l.query
