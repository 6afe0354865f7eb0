use Rattle.std.proofs.Common.{◌≡◌, map, string_bytes, take}
use Rattle.std.specs.FinMap as finite
use Rattle.mg_value.specs.View.{view}
use Rattle.mg_engine.specs.Questions.{row_of_key}
use Rattle.mg_engine.specs.Stands.{StateStandsFor}
use Rattle.mg_engine.specs.World.{World}
use Rattle.mg_engine.proofs.state.State.rows_of.Given as goal

abbrev pub invariant-loop-id : goal.invariant-loop-id
invariant-loop-id g l = (w : World) → StateStandsFor (g.P.Placement.place l.placement) l.self w → map view l.rows.items ≡ map (λ id. row_of_key l.documents (string_bytes id) (finite.get w.docs (string_bytes id))) (take l.id-index l.ids)
