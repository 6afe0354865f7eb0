use Rattle.mg_live.proofs.seat.Seat.share.Goals as goal

pub returns-clause-published : goal.returns-clause-published
returns-clause-published g c = rw c.if-not-catch_up.ensures.caught_up.0 c.if-not-catch_up.ensures.published
