use Rattle.std.proofs.Common.{refl, sym}
use Rattle.mg_http.proofs.sessions.answer.answer_request.Goals as goal

pub returns-in-Asks : goal.returns-in-Asks
returns-in-Asks g c = rw (c.in-Asks.is, sym c.into_command.ensures) c.execute.ensures

pub returns-in-Refuses : goal.returns-in-Refuses
returns-in-Refuses g c = rw c.in-Refuses.is (refl, refl)
