use Rattle.std.proofs.Common.{inl, inr}
use Rattle.mg_wire.specs.Request.{fields_in}
use Rattle.mg_face.specs.Plan.{plan_of}
use Rattle.mango_server.proofs.Faces.{carried}
use Rattle.mango_server.proofs.laws.a_stored_seat_answers_as_defined.Goals as goal

pub returns : goal.returns
returns c = λ db old request response new served. elim (carried db (fields_in request) old (plan_of db served.drawn request) response new served.carries) [
  | inl done ↦ inl (record { drawn = served.drawn; small = served.small; carried = done })
  | inr lack ↦ inr lack
]
