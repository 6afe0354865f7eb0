use Rattle.mango_server.proofs.replay.executed_beside.Goals as goal

pub returns-clause-seen : goal.returns-clause-seen
returns-clause-seen g c = rw c.in_ok-seat.was at c.join-ready.ensures.second
