use Rattle.std.proofs.Common.{[], ◌∷◌, refl}
use Rattle.mg_server.proofs.connection.attend.Goals as goal

pub returns-in-Serving : goal.returns-in-Serving
returns-in-Serving g c = record {
  visits = (c.in-Serving.client.conversation, c.visit.new.client.conversation) ∷ [];
  each = (c.visit.new.service, c.visit.ensures.visit, refl);
}
