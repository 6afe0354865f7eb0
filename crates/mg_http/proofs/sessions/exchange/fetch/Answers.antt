use Rattle.std.proofs.Common.{[], refl, ◌∙◌, inl, inr}
use Rattle.mg_http.proofs.ToldLemmas.{paused}
use Rattle.mg_http.proofs.sessions.exchange.fetch.Goals as goal

pub returns-in-Ok-Some-eq0-clause-ends : goal.returns-in-Ok-Some-eq0-clause-ends
returns-in-Ok-Some-eq0-clause-ends g c = λ rests.
    let arm = c.in-Ok-Some-eq0 in
    let ok = rw arm.is at c.receive.ensures.ok in
    let read = rw arm.field-0-is at ok in
    paused c.args.connection.now _ read.0 read.3 (read.1 ∙ arm.field-0-0-test) c.requires.goes_on c.requires.sent (c.receive.ensures.waits ∙ c.requires.sent) rests
    (inl (rw arm.field-0-is at (rw arm.is at c.receive.ensures.starved)))

pub returns-in-Err-2-clause-ends : goal.returns-in-Err-2-clause-ends
returns-in-Err-2-clause-ends g c = λ rests.
    paused c.args.connection.now _ [] c.in-Err-2.ensures.err.0 refl c.requires.goes_on c.requires.sent (c.receive.ensures.waits ∙ c.requires.sent) rests
    (inr c.in-Err-2.ensures.starved)
