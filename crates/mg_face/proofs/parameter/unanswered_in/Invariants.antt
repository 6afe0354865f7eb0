use Rattle.std.proofs.Common.{◌≡◌}
use Rattle.form_urlencoded.specs.Parse.{raw_pairs_left}
use Rattle.mg_face.specs.Parameters.{first_unanswered, unanswered_in}
use Rattle.mg_face.proofs.parameter.unanswered_in.Given as goal

abbrev pub invariant-loop-name : goal.invariant-loop-name
invariant-loop-name l = first_unanswered l.action (raw_pairs_left l.name-iterator) ≡ unanswered_in l.action l.query
