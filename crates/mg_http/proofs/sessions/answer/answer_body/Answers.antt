use Rattle.std.proofs.Common.{ap, Err, inl, inr, refl}
use Rattle.mg_http.proofs.sessions.answer.answer_body.Goals as goal

pub returns-in-Ok : goal.returns-in-Ok
returns-in-Ok g c =
    let read = c.in-Ok.ensures.ok in
    inl (read.0, read.1, rw read.2 at c.execute.ensures)

pub returns-in-Err-NotJson : goal.returns-in-Err-NotJson
returns-in-Err-NotJson g c =
    inr (inl (c.in-Err-NotJson.ensures.not_json (ap Err c.in-Err-NotJson.field-0-is), refl, refl))

pub returns : goal.returns
returns g c =
    inr (inl (c.in-Err-NotWhole.ensures.not_whole (ap Err c.in-Err-NotWhole.field-0-is), refl, refl))
