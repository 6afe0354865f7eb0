use Rattle.std.proofs.Common.{true}
use Rattle.mg_server.specs.Visits.{HasVisited}
use Rattle.mg_server.proofs.work.work.Given as goal

-- so far, visits took the service to its state
abbrev pub invariant-rounds : goal.invariant-rounds
invariant-rounds g l = HasVisited g.S.Handover.follows (g.C.Conversation.told true) l.fn.service l.service
